-- The commands of an operator: which calls of the engine each makes, and what is told of them.
use Rattle.std.specs.Prelude.{ℕ, ◌≡◌, List, [], ◌∷◌, ◌++◌, Option, Result, Ok, Err, codes}
use Rattle.std.specs.List.{All, sum_by}
use Rattle.engine_calls.specs.EventFits.{EventFits}
use Rattle.engine_calls.specs.declared.event.Answer.{Answer}
use Rattle.engine_calls.specs.declared.event.Answer.TheVariants as answer
use Rattle.engine_calls.specs.declared.event.Event.{Event}
use Rattle.engine_calls.specs.declared.event.Event.TheVariants.{CkptBegin, CkptEnd, CkptGather}
use Rattle.engine_calls.specs.declared.refusal.Refusal.{Refusal}
use Rattle.engine_calls.specs.declared.refusal.Refusal.TheVariants.{CkptOpen}
use Rattle.engine_rules.specs.EngineState.{EngineState}
use Rattle.engine_rules.specs.Run.{Run}
use Rattle.database_session.specs.Calls.{IsNoFault, IsOfClosing}
use Rattle.database_session.specs.PageWrites.{HasNoDirtyPage}
use Rattle.session_lines.specs.Said.{IsAnswer, IsAnswerOr}
use Rattle.database_session.specs.CommandCopies.{BeginsAndFills}
use Rattle.session_lines.specs.declared.help.TheConstants.{HELP}
use Rattle.session_lines.specs.declared.said.Said.{Said}
use Rattle.session_lines.specs.declared.said.Said.TheVariants.{Reply}
use Rattle.session_lines.specs.declared.operator_command.OperatorCommand.{OperatorCommand}
use Rattle.session_lines.specs.declared.operator_command.OperatorCommand.TheVariants.{Checkpoint, Copy, Flush, Help}
use Rattle.session_lines.specs.declared.operator_command.OperatorCommand.TheVariants.{Status}
use Rattle.session_lines.specs.declared.command_said.CommandSaid.{CommandSaid}
use Rattle.session_lines.specs.declared.command_said.CommandSaid.TheVariants.{Call, Flushed}
use Rattle.session_lines.specs.Commands.{Told, lines, one_line}

-- ---- calls of the engine

-- an engine made calls whose numbers fit, and this holds of them and of their replies
pub record Runs (Holds : List Event → List (Result Answer Refusal) → Type 0)
    (old new : EngineState) : Type 0 where
  pub events : List Event
  pub replies : List (Result Answer Refusal)
  pub fit : All EventFits events
  pub run : Run old events replies new
  pub holds : Holds events replies

-- calls of some kind were made, and the last one was refused so
pub record AreRefused (IsCall : Event → Type 0) (why : Refusal) (events : List Event)
    (replies : List (Result Answer Refusal)) : Type 0 where
  pub calls : All IsCall events
  pub before : List (Result Answer Refusal)
  pub last : replies ≡ before ++ Err why ∷ []

-- how many writes of pages have ended, as a reply tells
abbrev pub writes_ended_by : Result Answer Refusal → ℕ
writes_ended_by (Ok (answer.Written lsn)) = 1
writes_ended_by (Ok other) = 0
writes_ended_by (Err why) = 0

-- pages were written, and so many writes have ended, none of them by a fault
pub record WritesPages (count : ℕ) (events : List Event)
    (replies : List (Result Answer Refusal)) : Type 0 where
  pub calls : All IsOfClosing events
  pub no_fault : All IsNoFault replies
  pub ended : sum_by writes_ended_by replies ≡ count

-- a call that a whole checkpoint makes
abbrev pub IsOfCheckpoint : Event → Type 0
IsOfCheckpoint CkptBegin = Unit {0}
IsOfCheckpoint CkptGather = Unit {0}
IsOfCheckpoint CkptEnd = Unit {0}
IsOfCheckpoint other = IsOfClosing other

-- steps of a gather were made
pub data GatherSteps : List Event → List (Result Answer Refusal) → Type 0 where
  no_step : GatherSteps [] []
  one_step : (events : List Event) (replies : List (Result Answer Refusal)) (answer : Answer)
      → GatherSteps events replies
      → GatherSteps (events ++ CkptGather ∷ []) (replies ++ Ok answer ∷ [])

-- a checkpoint was begun, or one was open, and it was gathered step by step
pub data Gathers : List Event → List (Result Answer Refusal) → Type 0 where
  begins : (answer : Answer) (events : List Event) (replies : List (Result Answer Refusal))
      → GatherSteps events replies → Gathers (CkptBegin ∷ events) (Ok answer ∷ replies)
  goes_on : (events : List Event) (replies : List (Result Answer Refusal))
      → GatherSteps events replies → Gathers (CkptBegin ∷ events) (Err CkptOpen ∷ replies)

-- pages were written, and then a checkpoint was begun and gathered
pub data GathersAll : List Event → List (Result Answer Refusal) → Type 0 where
  pages_first : (writes steps : List Event) (written given : List (Result Answer Refusal))
      (count : ℕ) → WritesPages count writes written → Gathers steps given
      → GathersAll (writes ++ steps) (written ++ given)

-- pages were written until none was dirty, and then a checkpoint was begun, or gone on with, and
-- gathered
pub record GathersClean (old new : EngineState) : Type 0 where
  pub between : EngineState
  pub count : ℕ
  pub written : Runs (WritesPages count) old between
  pub clean : HasNoDirtyPage between
  pub gathered : Runs Gathers between new

-- what is said of the reply to a call that makes a file: that reply, or that the file is not in
-- place
abbrev pub IsSaidOnce : Result Answer Refusal → Said → Type 0
IsSaidOnce (Ok answer) said = IsAnswerOr answer said
IsSaidOnce (Err why) said = said ≡ Reply (Err why)

-- ---- what a command does

-- the last line of what is told of the database says that it is the last one
abbrev pub IsStatus : List ℕ → Type 0
IsStatus text = (before : List ℕ) × (text ≡ before ++ codes "status end\n")

-- a command tells this of the database alone, or of the commands
abbrev pub IsTelling : OperatorCommand → List ℕ → Type 0
IsTelling Status text = IsStatus text
IsTelling Help text = text ≡ HELP.now
IsTelling other text = ⊥

-- the engine made these calls for a command, and gave these replies; of that, this is told
pub data SaysOfCommand : OperatorCommand → List Event → List (Result Answer Refusal) → Told → Type 0 where
  -- pages were written
  flushed : (count : ℕ) (events : List Event) (replies : List (Result Answer Refusal))
      → WritesPages count events replies
      → SaysOfCommand Flush events replies (one_line (Flushed count))
  not_flushed : (why : Refusal) (events : List Event) (replies : List (Result Answer Refusal))
      → AreRefused IsOfClosing why events replies
      → SaysOfCommand Flush events replies (one_line (Call (Reply (Err why))))
  -- a whole checkpoint was made, and what is said is said of the call that ended it
  ended : (events : List Event) (replies : List (Result Answer Refusal))
      (reply : Result Answer Refusal) (said : Said) → GathersAll events replies
      → IsSaidOnce reply said
      → SaysOfCommand Checkpoint (events ++ CkptEnd ∷ []) (replies ++ reply ∷ [])
      (one_line (Call said))
  not_gathered : (why : Refusal) (events : List Event) (replies : List (Result Answer Refusal))
      → AreRefused IsOfCheckpoint why events replies
      → SaysOfCommand Checkpoint events replies (one_line (Call (Reply (Err why))))
  -- a copy was begun and filled, where the last checkpoint is new
  copied : (parent : Option ℕ) (events : List Event) (replies : List (Result Answer Refusal))
      (said : CommandSaid) → BeginsAndFills parent events replies said
      → SaysOfCommand (Copy parent) events replies (one_line said)
  -- or behind a whole checkpoint, which was answered
  copied_behind : (parent : Option ℕ) (events more : List Event)
      (replies given : List (Result Answer Refusal)) (point : Answer) (said : CommandSaid)
      → SaysOfCommand Checkpoint events replies (one_line (Call (Reply (Ok point))))
      → BeginsAndFills parent more given said
      → SaysOfCommand (Copy parent) (events ++ more) (replies ++ given) (one_line said)
  not_behind : (parent : Option ℕ) (events : List Event) (replies : List (Result Answer Refusal))
      (said : Said) → SaysOfCommand Checkpoint events replies (one_line (Call said)) → ¬ IsAnswer said
      → SaysOfCommand (Copy parent) events replies (one_line (Call said))
  -- no call was made
  telling : (command : OperatorCommand) (text : List ℕ) → IsTelling command text → SaysOfCommand command [] [] (lines text)

-- the engine made calls for a command, and this is told of them
abbrev pub MakesCommand : OperatorCommand → EngineState → Told → EngineState → Type 0
MakesCommand command old told new = Runs (λ events replies. SaysOfCommand command events replies told) old new
