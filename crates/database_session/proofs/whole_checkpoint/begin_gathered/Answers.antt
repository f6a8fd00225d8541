use Rattle.std.specs.Prelude.{Err, Ok}
use Rattle.std.proofs.Common.{subst}
use Rattle.std.proofs.lemmas.Result.{on_ok_weaker}
use Rattle.engine_calls.specs.declared.event.Answer.TheVariants.{Logged}
use Rattle.engine_calls.specs.declared.event.Event.TheVariants.{CkptBegin}
use Rattle.engine_calls.specs.declared.refusal.Refusal.{Refusal}
use Rattle.engine_rules.specs.Step.{Step}
use Rattle.database_session.proofs.CommandRuns.{begun_refused, err_weaker, gathers_then, goes_on_then, refuses_call}
use Rattle.database_session.specs.CommandCalls.{AreRefused, IsOfCheckpoint, Runs}
use Rattle.database_session.proofs.whole_checkpoint.begin_gathered.Goals as goal

pub returns-in-Ok-clause-gathered : goal.returns-in-Ok-clause-gathered
returns-in-Ok-clause-gathered g c =
    on_ok_weaker c.gather_all.result
    (gathers_then c.args.engine.now.state c.ckpt_begin.new.self.state c.gather_all.new.engine.state
    (Logged c.in-Ok.field-0) c.in-Ok.ensures.step)
    c.gather_all.ensures.gathered

pub returns-in-Ok-clause-refused : goal.returns-in-Ok-clause-refused
returns-in-Ok-clause-refused g c =
    err_weaker c.gather_all.result
    (λ why. Runs (AreRefused IsOfCheckpoint why) c.ckpt_begin.new.self.state c.gather_all.new.engine.state)
    (λ why. Runs (AreRefused IsOfCheckpoint why) c.args.engine.now.state c.gather_all.new.engine.state)
    (λ why. begun_refused why c.args.engine.now.state c.ckpt_begin.new.self.state c.gather_all.new.engine.state
    (Ok (Logged c.in-Ok.field-0)) c.in-Ok.ensures.step)
    c.gather_all.ensures.refused

pub returns-in-Err-CkptOpen-clause-gathered : goal.returns-in-Err-CkptOpen-clause-gathered
returns-in-Err-CkptOpen-clause-gathered g c =
    on_ok_weaker c.gather_all-in-Err-CkptOpen.result
    (goes_on_then c.args.engine.now.state c.ckpt_begin.new.self.state c.gather_all-in-Err-CkptOpen.new.engine.state
    (subst (λ (why : Refusal). Step c.args.engine.now.state CkptBegin (Err why) c.ckpt_begin.new.self.state)
    c.in-Err-CkptOpen.field-0-is c.in-Err-CkptOpen.ensures.step))
    c.gather_all-in-Err-CkptOpen.ensures.gathered

pub returns-in-Err-CkptOpen-clause-refused : goal.returns-in-Err-CkptOpen-clause-refused
returns-in-Err-CkptOpen-clause-refused g c =
    err_weaker c.gather_all-in-Err-CkptOpen.result
    (λ why. Runs (AreRefused IsOfCheckpoint why) c.ckpt_begin.new.self.state
    c.gather_all-in-Err-CkptOpen.new.engine.state)
    (λ why. Runs (AreRefused IsOfCheckpoint why) c.args.engine.now.state
    c.gather_all-in-Err-CkptOpen.new.engine.state)
    (λ why. begun_refused why c.args.engine.now.state c.ckpt_begin.new.self.state
    c.gather_all-in-Err-CkptOpen.new.engine.state (Err c.in-Err-CkptOpen.field-0) c.in-Err-CkptOpen.ensures.step)
    c.gather_all-in-Err-CkptOpen.ensures.refused

pub returns-in-Err-clause-refused : goal.returns-in-Err-clause-refused
returns-in-Err-clause-refused g c =
    refuses_call IsOfCheckpoint c.in-Err.why c.args.engine.now.state c.ckpt_begin.new.self.state CkptBegin tt tt
    c.in-Err.ensures.step
