-- A script that is played: what its lines say, what the engine answers, and what it leaves.
use Rattle.std.specs.Prelude.{ℕ, ◌≡◌, ◌<◌, All, List, length, take, Option, Some, IfSome}
use Rattle.std.specs.Prelude.{Result}
use Rattle.std.specs.Io.KnownBytes.{Appends, Keeps}
use Rattle.copy_coverage.specs.Retired.{RetiredView}
use Rattle.engine_calls.specs.declared.event.Answer.{Answer}
use Rattle.engine_calls.specs.declared.event.Event.{Event}
use Rattle.engine_calls.specs.declared.refusal.Refusal.{Refusal}
use Rattle.engine_rules.specs.EngineState.{EngineState, new_state}
use Rattle.engine_rules.specs.Run.{Run}
use Rattle.engine_rules.specs.Step.{IsByDevice, IsByStore, IsFaultReply}
use Rattle.event_script.specs.declared.script.LastRestore.{LastRestore}
use Rattle.event_script.specs.Read.{GaveNoFault, IsText, Refuses}
use Rattle.event_script.specs.Script.{said_in}
use Rattle.event_script.specs.Words.{lines_of}
use Rattle.script_run.specs.declared.run_fault.ScriptRunFault.{ScriptRunFault}
use Rattle.script_run.specs.declared.run_fault.ScriptRunFault.TheVariants.{Script, OutOfMemory}
use Rattle.script_run.specs.declared.run_fault.ScriptRunFault.TheVariants.{WriteFault}
use Rattle.script_run.specs.Left.{IsLeftBy}
use Rattle.script_run.specs.ReplyLines.{reply_lines}

-- the input is a script of these events with this restore behind them
pub record IsScript (events : List Event) (last : Option LastRestore)
    (input : List ℕ) : Type 0 where
  pub text : IsText input
  pub said : said_in (lines_of input) ≡ Some (events, last)

-- a reply that tells of no fault of the log's device, and of none of the page store
pub record IsFaultless (reply : Result Answer Refusal) : Type 0 where
  pub device : ¬ IsFaultReply IsByDevice reply
  pub store : ¬ IsFaultReply IsByStore reply

-- a new engine with so many pages and frames plays a script with these replies, of which none
-- tells of a fault, and leaves this, and this restore is left to do
pub record Plays (pages frames : ℕ) (input : Option (List ℕ))
    (replies : List (Result Answer Refusal)) (left : RetiredView) (last : Option LastRestore)
    : Type 0 where
  pub events : List Event
  pub state : EngineState
  pub script : IfSome input (IsScript events last)
  pub run : Run (new_state pages frames) events replies state
  pub faultless : All IsFaultless replies
  pub left_by : IsLeftBy state left

-- and the lines of the replies were written
pub record Runs (pages frames : ℕ) (input old new : Option (List ℕ)) (left : RetiredView)
    (last : Option LastRestore) : Type 0 where
  pub replies : List (Result Answer Refusal)
  pub plays : Plays pages frames input replies left last
  pub written : Appends old new (reply_lines replies)

-- or the first bytes of these lines, so many but not all
pub record RunsInPart (pages frames : ℕ) (input old new : Option (List ℕ)) (done : ℕ) : Type 0 where
  pub replies : List (Result Answer Refusal)
  pub left : RetiredView
  pub last : Option LastRestore
  pub plays : Plays pages frames input replies left last
  pub within : done < length (reply_lines replies)
  pub written : Appends old new (take done (reply_lines replies))

-- the first of these bytes were written, so many but not all; without memory, nothing
abbrev pub LeavesPart : List ℕ → Option (List ℕ) → Option (List ℕ) → ScriptRunFault → Type 0
LeavesPart bytes old new OutOfMemory = Keeps old new
LeavesPart bytes old new (WriteFault done) =
    (done < length bytes) × Appends old new (take done bytes)
LeavesPart bytes old new other = ⊥

-- what stands where a script is not played, or its replies are not written; but for a fault of the
-- writer nothing was written
abbrev pub RunLeaves : ℕ → ℕ → Option (List ℕ) → Option (List ℕ) → Option (List ℕ) → ScriptRunFault
    → Type 0
RunLeaves pages frames input old new (Script fault) =
    IfSome input (λ input. Refuses input fault) × Keeps old new
RunLeaves pages frames input old new OutOfMemory = Keeps old new
RunLeaves pages frames input old new (WriteFault done) = RunsInPart pages frames input old new done

-- where the reader of the script failed, what it gave until then is not too long
abbrev pub FailedUnread : Option (List ℕ) → Option (List ℕ) → ScriptRunFault → Type 0
FailedUnread old new (Script fault) = GaveNoFault old new fault
FailedUnread old new other = Unit {0}
