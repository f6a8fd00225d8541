use Rattle.std.proofs.lemmas.Result.{on_ok_weaker}
use Rattle.database_session.proofs.CommandRuns.{err_weaker, gathered_clean, written_gathered, written_not_gathered}
use Rattle.database_session.specs.CommandCalls.{AreRefused, IsOfCheckpoint, Runs}
use Rattle.database_session.proofs.whole_checkpoint.gathered.Goals as goal

pub returns-in-Ok-clause-gathered : goal.returns-in-Ok-clause-gathered
returns-in-Ok-clause-gathered g c =
    on_ok_weaker c.begin_gathered.result
    (written_gathered c.in-Ok.field-0 c.args.engine.now.state c.write_pages.new.engine.state
    c.begin_gathered.new.engine.state c.in-Ok.ensures.written)
    c.begin_gathered.ensures.gathered

pub returns-in-Ok-clause-clean : goal.returns-in-Ok-clause-clean
returns-in-Ok-clause-clean g c =
    on_ok_weaker c.begin_gathered.result
    (gathered_clean c.in-Ok.field-0 c.args.engine.now.state c.write_pages.new.engine.state
    c.begin_gathered.new.engine.state c.in-Ok.ensures.written c.in-Ok.ensures.clean)
    c.begin_gathered.ensures.gathered

pub returns-in-Ok-clause-refused : goal.returns-in-Ok-clause-refused
returns-in-Ok-clause-refused g c =
    err_weaker c.begin_gathered.result
    (λ why. Runs (AreRefused IsOfCheckpoint why) c.write_pages.new.engine.state c.begin_gathered.new.engine.state)
    (λ why. Runs (AreRefused IsOfCheckpoint why) c.args.engine.now.state c.begin_gathered.new.engine.state)
    (λ why. written_not_gathered c.in-Ok.field-0 why c.args.engine.now.state c.write_pages.new.engine.state
    c.begin_gathered.new.engine.state c.in-Ok.ensures.written)
    c.begin_gathered.ensures.refused
