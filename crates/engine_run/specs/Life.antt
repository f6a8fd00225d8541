-- The life of a shared engine: calls, one after another, from the engine that it began with.
use Rattle.std.specs.Prelude.{◌≡◌, ◌++◌, List, Result}
use Rattle.log_records.specs.declared.record.Record.{Record}
use Rattle.engine_calls.specs.declared.event.Answer.{Answer}
use Rattle.engine_calls.specs.declared.event.Event.{Event}
use Rattle.engine_calls.specs.declared.refusal.Refusal.{Refusal}
use Rattle.engine_rules.specs.EngineState.{EngineState, IsFit}
use Rattle.engine_rules.specs.Run.{Run}

-- an engine that was fit had this log, and has come to this state by calls, one after another
pub record IsLifeOf (before : List Record) (now : EngineState) : Type 0 where
  pub opened : EngineState
  pub fit : IsFit opened
  pub log_is : opened.log ≡ before
  pub events : List Event
  pub replies : List (Result Answer Refusal)
  pub run : Run opened events replies now

-- a log begins with these records
abbrev pub BeginsBy : List Record → List Record → Type 0
BeginsBy before rs = (rest : List Record) × (rs ≡ before ++ rest)
