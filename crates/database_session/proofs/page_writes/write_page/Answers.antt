use Rattle.std.proofs.Common.{◌+◌, arith, refl}
use Rattle.database_session.proofs.PageWrites.{cleans}
use Rattle.database_session.proofs.CommandRuns.{handed_on, written_refused, written_then}
use Rattle.database_session.specs.Calls.{IsOfClosing}
use Rattle.database_session.specs.CommandCalls.{AreRefused, Runs}
use Rattle.database_session.proofs.page_writes.write_page.Goals as goal

pub returns-in_err-begin_write-clause-refused : goal.returns-in_err-begin_write-clause-refused
returns-in_err-begin_write-clause-refused g c =
    handed_on c.from_residual-in_err-begin_write.result c.in_err-begin_write.field-0.0
    (λ why. Runs (AreRefused IsOfClosing why) c.args.engine.now.state c.begin_write.new.engine.state)
    c.from_residual-in_err-begin_write.ensures.1
    (written_refused c.in_ok-older.older c.in_err-begin_write.field-0.0 c.args.engine.now.state
    c.end_write.new.engine.state c.begin_write.new.engine.state c.in_ok-older.ensures.written
    c.in_err-begin_write.ensures.refused)

pub returns-in_err-newer-clause-refused : goal.returns-in_err-newer-clause-refused
returns-in_err-newer-clause-refused g c =
    handed_on c.from_residual-in_err-newer.result c.in_err-newer.field-0.0
    (λ why. Runs (AreRefused IsOfClosing why) c.args.engine.now.state c.end_write-2.new.engine.state)
    c.from_residual-in_err-newer.ensures.1
    (written_refused c.in_ok-older.older c.in_err-newer.field-0.0 c.args.engine.now.state
    c.end_write.new.engine.state c.end_write-2.new.engine.state c.in_ok-older.ensures.written
    (written_refused 0 c.in_err-newer.field-0.0 c.end_write.new.engine.state c.begin_write.new.engine.state
    c.end_write-2.new.engine.state c.in_ok-begin_write.ensures.written c.in_err-newer.ensures.refused))

pub returns-clause-written : goal.returns-clause-written
returns-clause-written g c =
    written_then c.in_ok-older.older c.in_ok-newer.newer (c.in_ok-older.older + c.in_ok-newer.newer)
    c.args.engine.now.state c.end_write.new.engine.state c.end_write-2.new.engine.state refl
    c.in_ok-older.ensures.written
    (written_then 0 c.in_ok-newer.newer c.in_ok-newer.newer c.end_write.new.engine.state
    c.begin_write.new.engine.state c.end_write-2.new.engine.state (omega arith) c.in_ok-begin_write.ensures.written
    c.in_ok-newer.ensures.written)

pub returns-clause-cleaned : goal.returns-clause-cleaned
returns-clause-cleaned g c =
    cleans c.args.page c.args.engine.now.state c.end_write.new.engine.state c.begin_write.new.engine.state
    c.end_write-2.new.engine.state c.log_end-end.ensures.fit c.in_ok-older.ensures.within c.in_ok-older.ensures.ended
    c.in_ok-begin_write.ensures.begun c.in_ok-newer.ensures.ended
