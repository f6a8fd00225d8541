use Rattle.std.specs.Prelude.{Ok, Err}
use Rattle.std.proofs.Common.{refl, subst, sym}
use Rattle.engine_calls.specs.declared.event.Answer.TheVariants.{Writing}
use Rattle.engine_calls.specs.declared.event.Event.TheVariants.{WriteBegin}
use Rattle.engine_calls.specs.declared.refusal.Refusal.{Refusal}
use Rattle.engine_calls.specs.declared.refusal.Refusal.TheVariants.{NotDirty}
use Rattle.database_session.proofs.PageWrites.{none_to_begin, write_begun}
use Rattle.database_session.proofs.Runs.{answered_well, refused_well}
use Rattle.database_session.proofs.CommandRuns.{refuses_call, writes_call}
use Rattle.database_session.specs.Calls.{IsNoFault, IsOfClosing}
use Rattle.database_session.proofs.page_writes.begin_write.Goals as goal

pub returns-in-Ok-clause-written : goal.returns-in-Ok-clause-written
returns-in-Ok-clause-written g c =
    writes_call 0 c.args.engine.now.state c.write_begin.new.self.state (WriteBegin c.args.page)
    (Ok (Writing c.in-Ok.field-0)) tt tt (answered_well (Writing c.in-Ok.field-0)) refl c.in-Ok.ensures.step

pub returns-in-Err-NotDirty-clause-written : goal.returns-in-Err-NotDirty-clause-written
returns-in-Err-NotDirty-clause-written g c =
    writes_call 0 c.args.engine.now.state c.write_begin.new.self.state (WriteBegin c.args.page)
    (Err c.in-Err-NotDirty.field-0) tt tt
    (subst (λ (why : Refusal). IsNoFault (Err why)) (sym c.in-Err-NotDirty.field-0-is)
    (refused_well NotDirty (λ is. is) (λ is. is))) refl c.in-Err-NotDirty.ensures.step

pub returns-in-Err : goal.returns-in-Err
returns-in-Err g c = record {
  written = tt;
  begun = tt;
  refused = refuses_call IsOfClosing c.in-Err.why c.args.engine.now.state c.write_begin.new.self.state
      (WriteBegin c.args.page) tt tt c.in-Err.ensures.step;
}

pub returns-in-Ok-clause-begun : goal.returns-in-Ok-clause-begun
returns-in-Ok-clause-begun g c =
    write_begun c.args.page c.in-Ok.field-0 c.args.engine.now.state c.write_begin.new.self.state c.in-Ok.ensures.step

pub returns-in-Err-NotDirty-clause-begun : goal.returns-in-Err-NotDirty-clause-begun
returns-in-Err-NotDirty-clause-begun g c =
    none_to_begin c.args.page c.in-Err-NotDirty.field-0 c.args.engine.now.state c.write_begin.new.self.state
    c.in-Err-NotDirty.field-0-is c.in-Err-NotDirty.ensures.step
