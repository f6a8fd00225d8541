-- The calls that the log shows, after a step and after a run.
use Rattle.std.proofs.Common.{◌≡◌, ◌++◌, List, [], ◌∷◌, ap, sym, ◌∙◌, inl, inr}
use Rattle.std.specs.Prelude.{Result}
use Rattle.std.specs.Option.{option_to_list}
use Rattle.std.proofs.lemmas.List.{append-nil, append_assoc}
use Rattle.log_rules.specs.Work.{Call, work}
use Rattle.log_rules.proofs.Public.{work_push}
use Rattle.engine_calls.specs.declared.event.Answer.{Answer}
use Rattle.engine_calls.specs.declared.event.Event.{Event}
use Rattle.engine_calls.specs.declared.refusal.Refusal.{Refusal}
use Rattle.engine_rules.specs.Accepted.{accepted, shown_call}
use Rattle.engine_rules.specs.EngineState.{EngineState}
use Rattle.engine_rules.specs.Run.{Run}
use Rattle.engine_rules.specs.Step.{Step}
use Rattle.engine_rules.proofs.Steps.{stays_or_grows}

pub work_of_step : (old : EngineState) (event : Event) (reply : Result Answer Refusal) (new : EngineState)
    → Step old event reply new → work new.log ≡ work old.log ++ option_to_list (shown_call event reply)
work_of_step old event reply new step = elim (stays_or_grows old event reply new step) [
  | inl stays ↦ rw (stays.log, stays.unseen) (sym (append-nil (work old.log)))
  | inr grows ↦ rw (grows.log, grows.shown) (work_push old.log grows.r)
]

pub work_of_run : (old : EngineState) (events : List Event) (replies : List (Result Answer Refusal)) (new : EngineState)
    → Run old events replies new → work new.log ≡ work old.log ++ accepted events replies
work_of_run old [] [] new is = rw is (sym (append-nil (work old.log)))
work_of_run old (event ∷ events) (reply ∷ replies) new run =
    work_of_run run.0 events replies new run.2
    ∙ ap (λ (calls : List Call). calls ++ accepted events replies) (work_of_step old event reply run.0 run.1)
    ∙ append_assoc (work old.log) (option_to_list (shown_call event reply)) (accepted events replies)
work_of_run old [] (reply ∷ replies) new run = absurd run
work_of_run old (event ∷ events) [] new run = absurd run
