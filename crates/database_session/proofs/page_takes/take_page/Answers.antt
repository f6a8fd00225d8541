use Rattle.std.proofs.Common.{subst}
use Rattle.std.specs.Prelude.{Err}
use Rattle.engine_calls.specs.declared.event.Event.TheVariants.{Take}
use Rattle.engine_calls.specs.declared.refusal.Refusal.{Refusal}
use Rattle.engine_calls.specs.declared.refusal.Refusal.TheVariants.{StoreFault}
use Rattle.engine_rules.specs.Step.{Step}
use Rattle.database_session.proofs.CommandCopies.{refuses_page, refuses_repair, refuses_repaired, takes_at_once, takes_repaired}
use Rattle.database_session.proofs.page_takes.take_page.Goals as goal

pub returns-in-Ok-clause-taken : goal.returns-in-Ok-clause-taken
returns-in-Ok-clause-taken g c =
    takes_at_once c.args.id c.args.page c.in-Ok.field-0 c.args.engine.now.state c.apply.new.self.state
    c.in-Ok.ensures.step

pub returns-in-Err : goal.returns-in-Err
returns-in-Err g c = record {
  taken = tt;
  refused = refuses_page c.args.id c.args.page c.in-Err.why c.args.engine.now.state c.apply.new.self.state
      c.in-Err.ensures.step;
}

pub returns-in_default-clause-refused : goal.returns-in_default-clause-refused
returns-in_default-clause-refused g c =
    refuses_page c.args.id c.args.page StoreFault c.args.engine.now.state c.apply.new.self.state
    (subst (λ (why : Refusal). Step c.args.engine.now.state (Take c.args.id c.args.page) (Err why) c.apply.new.self.state)
    c.in-Err-StoreFault.field-0-is c.in-Err-StoreFault.ensures.step)

pub returns-in-Err-apply-clause-refused : goal.returns-in-Err-apply-clause-refused
returns-in-Err-apply-clause-refused g c =
    refuses_repair c.args.id c.args.page c.in-Some.from c.in-Err-apply.why c.args.engine.now.state c.apply.new.self.state
    c.apply-2.new.self.state
    (subst (λ (why : Refusal). Step c.args.engine.now.state (Take c.args.id c.args.page) (Err why) c.apply.new.self.state)
    c.in-Err-StoreFault.field-0-is c.in-Err-StoreFault.ensures.step)
    c.in-Err-apply.ensures.step

pub returns-in-Ok-apply-2-clause-taken : goal.returns-in-Ok-apply-2-clause-taken
returns-in-Ok-apply-2-clause-taken g c =
    takes_repaired c.args.id c.args.page c.in-Some.from c.in-Ok-apply.field-0 c.args.engine.now.state
    c.apply.new.self.state c.apply-2.new.self.state c.apply-3.new.self.state
    (subst (λ (why : Refusal). Step c.args.engine.now.state (Take c.args.id c.args.page) (Err why) c.apply.new.self.state)
    c.in-Err-StoreFault.field-0-is c.in-Err-StoreFault.ensures.step)
    c.in-Ok-apply.ensures.step c.in-Ok-apply-2.field-0 c.in-Ok-apply-2.ensures.step

pub returns-in-Err-apply-2-clause-refused : goal.returns-in-Err-apply-2-clause-refused
returns-in-Err-apply-2-clause-refused g c =
    refuses_repaired c.args.id c.args.page c.in-Some.from c.in-Ok-apply.field-0 c.args.engine.now.state
    c.apply.new.self.state c.apply-2.new.self.state c.apply-3.new.self.state
    (subst (λ (why : Refusal). Step c.args.engine.now.state (Take c.args.id c.args.page) (Err why) c.apply.new.self.state)
    c.in-Err-StoreFault.field-0-is c.in-Err-StoreFault.ensures.step)
    c.in-Ok-apply.ensures.step c.in-Err-apply-2.why c.in-Err-apply-2.ensures.step
