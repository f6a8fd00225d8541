-- Calls one after another.
use Rattle.std.specs.Prelude.{◌≡◌, List, [], ◌∷◌, Result}
use Rattle.engine_calls.specs.declared.event.Answer.{Answer}
use Rattle.engine_calls.specs.declared.event.Event.{Event}
use Rattle.engine_calls.specs.declared.refusal.Refusal.{Refusal}
use Rattle.engine_rules.specs.EngineState.{EngineState}
use Rattle.engine_rules.specs.Step.{Step}

-- from old, an engine may give these replies to these events, one step after another, and end as
-- new
abbrev pub Run : EngineState → List Event → List (Result Answer Refusal) → EngineState → Type 0
Run old [] [] new = new ≡ old
Run old (event ∷ events) (reply ∷ replies) new =
    (mid : EngineState) × Step old event reply mid × Run mid events replies new
Run old [] (reply ∷ replies) new = ⊥
Run old (event ∷ events) [] new = ⊥
