use Rattle.std.specs.Prelude.{Ok, Err}
use Rattle.std.proofs.Common.{refl, subst, sym}
use Rattle.engine_calls.specs.declared.event.Answer.TheVariants.{Written}
use Rattle.engine_calls.specs.declared.event.Event.TheVariants.{WriteEnd}
use Rattle.engine_calls.specs.declared.refusal.Refusal.{Refusal}
use Rattle.engine_calls.specs.declared.refusal.Refusal.TheVariants.{NoWrite}
use Rattle.database_session.proofs.PageWrites.{none_to_end, write_ended}
use Rattle.database_session.proofs.Runs.{answered_well, refused_well}
use Rattle.database_session.proofs.CommandRuns.{refuses_call, writes_call}
use Rattle.database_session.specs.Calls.{IsNoFault, IsOfClosing}
use Rattle.database_session.proofs.page_writes.end_write.Goals as goal

pub returns-in-Ok-clause-written : goal.returns-in-Ok-clause-written
returns-in-Ok-clause-written g c =
    writes_call 1 c.args.engine.now.state c.write_end.new.self.state (WriteEnd c.args.page)
    (Ok (Written c.in-Ok.field-0)) tt tt (answered_well (Written c.in-Ok.field-0)) refl c.in-Ok.ensures.step

pub returns-in-Err-NoWrite-clause-written : goal.returns-in-Err-NoWrite-clause-written
returns-in-Err-NoWrite-clause-written g c =
    writes_call 0 c.args.engine.now.state c.write_end.new.self.state (WriteEnd c.args.page)
    (Err c.in-Err-NoWrite.field-0) tt tt
    (subst (λ (why : Refusal). IsNoFault (Err why)) (sym c.in-Err-NoWrite.field-0-is)
    (refused_well NoWrite (λ is. is) (λ is. is))) refl c.in-Err-NoWrite.ensures.step

pub returns-in-Err : goal.returns-in-Err
returns-in-Err g c = record {
  few = tt;
  written = tt;
  ended = tt;
  within = tt;
  refused = refuses_call IsOfClosing c.in-Err.why c.args.engine.now.state c.write_end.new.self.state
      (WriteEnd c.args.page) tt tt c.in-Err.ensures.step;
}

pub returns-in-Ok-clause-ended : goal.returns-in-Ok-clause-ended
returns-in-Ok-clause-ended g c =
    (write_ended c.args.page c.in-Ok.field-0 c.args.engine.now.state c.write_end.new.self.state c.in-Ok.ensures.step).0

pub returns-in-Ok-clause-within : goal.returns-in-Ok-clause-within
returns-in-Ok-clause-within g c =
    (write_ended c.args.page c.in-Ok.field-0 c.args.engine.now.state c.write_end.new.self.state c.in-Ok.ensures.step).1

pub returns-in-Err-NoWrite-clause-ended : goal.returns-in-Err-NoWrite-clause-ended
returns-in-Err-NoWrite-clause-ended g c =
    (none_to_end c.args.page c.in-Err-NoWrite.field-0 c.args.engine.now.state c.write_end.new.self.state
    c.in-Err-NoWrite.field-0-is c.in-Err-NoWrite.ensures.step).0

pub returns-in-Err-NoWrite-clause-within : goal.returns-in-Err-NoWrite-clause-within
returns-in-Err-NoWrite-clause-within g c =
    (none_to_end c.args.page c.in-Err-NoWrite.field-0 c.args.engine.now.state c.write_end.new.self.state
    c.in-Err-NoWrite.field-0-is c.in-Err-NoWrite.ensures.step).1
