-- The lines of an open database, and what is written of them.
use Rattle.std.specs.Prelude.{ℕ, ◌≡◌, ◌+◌, List, [], ◌∷◌, ◌++◌, Option, Some, None, length, IfSome}
use Rattle.std.specs.Prelude.{Result, Ok, Err, codes}
use Rattle.std.specs.Fmt.{decimal}
use Rattle.std.specs.Io.KnownBytes.{Appends}
use Rattle.std.specs.List.{All}
use Rattle.engine_calls.specs.EventFits.{EventFits}
use Rattle.engine_calls.specs.declared.event.Answer.{Answer}
use Rattle.engine_calls.specs.declared.event.Event.{Event}
use Rattle.engine_calls.specs.declared.refusal.Refusal.{Refusal}
use Rattle.engine_rules.specs.EngineState.{EngineState}
use Rattle.engine_rules.specs.Run.{Run}
use Rattle.saved_files.specs.Folder.{Entries}
use Rattle.database_session.specs.Calls.{IsAnyReply, IsOfClosing, Makes, RunsBy, SaysOf}
use Rattle.database_session.specs.Closing.{ClosesWell}
use Rattle.session_lines.specs.Lines.{AreAllLines, AreFirstLines, Line}
use Rattle.database_session.specs.MadeFiles.{HasPlaced, HasStored, IsInPlace, IsStoredFor}
use Rattle.session_lines.specs.Said.{said_line, LeavesLine}
use Rattle.database_session.specs.CommandCalls.{MakesCommand, SaysOfCommand}
use Rattle.session_lines.specs.Commands.{Told, text_of}
use Rattle.session_lines.specs.declared.bad_call.LineTrouble.{LineTrouble}
use Rattle.session_lines.specs.declared.order.Order.{Order}
use Rattle.session_lines.specs.declared.order.Order.TheVariants as order
use Rattle.session_lines.specs.declared.said.Said.{Said}
use Rattle.session_lines.specs.declared.serve_fault.ServeFault.{ServeFault}
use Rattle.session_lines.specs.declared.serve_fault.ServeFault.TheVariants.{OutOfMemory, ReadFault}
use Rattle.session_lines.specs.declared.operator_command.OperatorCommand.{OperatorCommand}
use Rattle.session_lines.specs.Orders.{LineSays, words_for}

-- what is written of a line that is no call, by its number and for this reason
abbrev pub bad_line : ℕ → List ℕ → List ℕ
bad_line number why = codes "bad line " ++ (decimal number ++ (codes ": " ++ (why ++ 10 ∷ [])))

-- a text is that, where it is said
abbrev pub TellsOf : LineTrouble → List ℕ → Type 0
TellsOf why text = IfSome (words_for why) (λ words. text ≡ words)

-- a line that is no call has its answer
abbrev pub WritesBad : ℕ → LineTrouble → Option (List ℕ) → Option (List ℕ) → Type 0
WritesBad number why before after =
    (text : List ℕ) × TellsOf why text × Appends before after (bad_line number text)

-- its answer was not written, or not all of it
abbrev pub LeavesBad
    : ℕ → LineTrouble → Option (List ℕ) → Option (List ℕ) → ServeFault → Type 0
LeavesBad number why before after fault =
    (text : List ℕ) × TellsOf why text × LeavesLine before after (bad_line number text) fault

-- the engine made the call of a line, and then the line of what is said of it was written; where
-- that tells of a file, the file was in place before
pub record Answers (event : Event) (old new : EngineState) (entries : Option Entries)
    (is_stored : Type 0) (before after : Option (List ℕ)) : Type 0 where
  pub said : Said
  pub made : Makes event old said new
  pub in_place : IsInPlace event said new entries
  pub stored : IsStoredFor event said is_stored
  pub written : Appends before after (said_line said)

-- the engine made the call of a line, but the line of what is said of it was not written, or not
-- all of it
pub record LeavesAnswer (event : Event) (old new : EngineState) (entries : Option Entries)
    (is_stored : Type 0) (before after : Option (List ℕ)) (fault : ServeFault) : Type 0 where
  pub said : Said
  pub made : Makes event old said new
  pub in_place : IsInPlace event said new entries
  pub stored : IsStoredFor event said is_stored
  pub left : LeavesLine before after (said_line said) fault

-- the engine made the calls of a command, and then that was written which is told of them; where
-- that tells of a file, the file was in place before
pub record TakesCommand (command : OperatorCommand) (old new : EngineState) (entries : Option Entries)
    (is_stored : Type 0) (before after : Option (List ℕ)) : Type 0 where
  pub told : Told
  pub made : MakesCommand command old told new
  pub in_place : HasPlaced command told new entries
  pub stored : HasStored command told is_stored
  pub written : Appends before after (text_of told)

-- the engine made the calls of a command, but what is told of them was not written, or not all of
-- it
pub record LeavesCommand (command : OperatorCommand) (old new : EngineState) (entries : Option Entries)
    (is_stored : Type 0) (before after : Option (List ℕ)) (fault : ServeFault) : Type 0 where
  pub told : Told
  pub made : MakesCommand command old told new
  pub in_place : HasPlaced command told new entries
  pub stored : HasStored command told is_stored
  pub left : LeavesLine before after (text_of told) fault

-- the line of this number was taken: its call or its command was answered; or it says nothing, and
-- nothing was done; or it is neither, which was written, and the engine was not called
abbrev pub Takes : ℕ → Result (Option Order) LineTrouble → EngineState → EngineState
    → Option Entries → Type 0 → Option (List ℕ) → Option (List ℕ) → Type 0
Takes number (Ok None) old new entries is_stored before after = (new ≡ old) × (after ≡ before)
Takes number (Ok (Some (order.Call event))) old new entries is_stored before after =
    Answers event old new entries is_stored before after
Takes number (Ok (Some (order.Command command))) old new entries is_stored before after =
    TakesCommand command old new entries is_stored before after
Takes number (Err why) old new entries is_stored before after =
    (new ≡ old) × WritesBad number why before after

-- the line of this number was taken, but its answer was not written, or not all of it
abbrev pub LeavesTaken : ℕ → Result (Option Order) LineTrouble → EngineState → EngineState
    → Option Entries → Type 0 → Option (List ℕ) → Option (List ℕ) → ServeFault → Type 0
LeavesTaken number (Ok None) old new entries is_stored before after fault = ⊥
LeavesTaken number (Ok (Some (order.Call event))) old new entries is_stored before after fault =
    LeavesAnswer event old new entries is_stored before after fault
LeavesTaken number (Ok (Some (order.Command command))) old new entries is_stored before after fault =
    LeavesCommand command old new entries is_stored before after fault
LeavesTaken number (Err why) old new entries is_stored before after fault =
    (new ≡ old) × LeavesBad number why before after fault

-- ---- all lines

-- these lines were taken one after another, and these calls of the engine were made for them, with
-- these replies: of each call that a line says, what is said of its replies was written, so was
-- what is told of each command, of a line that says nothing nothing, and of each one that is
-- neither, that it is none
pub data Tells (before : Option (List ℕ))
    : List Line → List Event → List (Result Answer Refusal) → Option (List ℕ) → Type 0 where
  nothing_told : Tells before [] [] [] before
  silent : (lines : List Line) (events : List Event) (replies : List (Result Answer Refusal))
      (text : Option (List ℕ)) (line : Line)
      → Tells before lines events replies text → LineSays line (Ok None)
      → Tells before (lines ++ line ∷ []) events replies text
  call_told : (lines : List Line) (events made : List Event)
      (replies given : List (Result Answer Refusal)) (text after : Option (List ℕ)) (line : Line)
      (event : Event) (said : Said)
      → Tells before lines events replies text → LineSays line (Ok (Some (order.Call event)))
      → SaysOf event made given said → Appends text after (said_line said)
      → Tells before (lines ++ line ∷ []) (events ++ made) (replies ++ given) after
  command_told : (lines : List Line) (events made : List Event)
      (replies given : List (Result Answer Refusal)) (text after : Option (List ℕ)) (line : Line)
      (command : OperatorCommand) (told : Told)
      → Tells before lines events replies text → LineSays line (Ok (Some (order.Command command)))
      → SaysOfCommand command made given told → Appends text after (text_of told)
      → Tells before (lines ++ line ∷ []) (events ++ made) (replies ++ given) after
  bad_told : (lines : List Line) (events : List Event) (replies : List (Result Answer Refusal))
      (text after : Option (List ℕ)) (line : Line) (why : LineTrouble)
      → Tells before lines events replies text → LineSays line (Err why)
      → WritesBad (1 + length lines) why text after
      → Tells before (lines ++ line ∷ []) events replies after

-- the engine ran by the calls of the lines that were taken, and its replies were told
pub record Serves (lines : List Line) (old new : EngineState) (before after : Option (List ℕ))
    : Type 0 where
  pub events : List Event
  pub replies : List (Result Answer Refusal)
  pub fit : All EventFits events
  pub run : Run old events replies new
  pub told : Tells before lines events replies after

-- all lines of an input were taken
pub record ServesAll (input : Option (List ℕ)) (old new : EngineState)
    (before after : Option (List ℕ)) : Type 0 where
  pub lines : List Line
  pub all : AreAllLines input lines
  pub served : Serves lines old new before after

-- how the line of this number was left: it was not taken, for want of memory; its call was made, or
-- those of its command, and not told; or it is neither, and that was not told
pub data LeavesLast (line : Line) (number : ℕ) (old new : EngineState)
    (before after : Option (List ℕ)) (fault : ServeFault) : Type 0 where
  not_taken : fault ≡ OutOfMemory → new ≡ old → after ≡ before
      → LeavesLast line number old new before after fault
  not_told : (event : Event) (said : Said) → LineSays line (Ok (Some (order.Call event)))
      → Makes event old said new → LeavesLine before after (said_line said) fault
      → LeavesLast line number old new before after fault
  command_not_told : (command : OperatorCommand) (told : Told) → LineSays line (Ok (Some (order.Command command)))
      → MakesCommand command old told new → LeavesLine before after (text_of told) fault
      → LeavesLast line number old new before after fault
  bad_not_told : (why : LineTrouble) → LineSays line (Err why) → new ≡ old
      → LeavesBad number why before after fault
      → LeavesLast line number old new before after fault

-- behind the first lines of an input the next one was left, or it was not read
pub data LeavesNext (input : Option (List ℕ)) (lines : List Line) (old new : EngineState)
    (before after : Option (List ℕ)) (fault : ServeFault) : Type 0 where
  not_read : AreFirstLines input lines → fault ≡ ReadFault → new ≡ old → after ≡ before
      → LeavesNext input lines old new before after fault
  next_left : (line : Line) → AreFirstLines input (lines ++ line ∷ [])
      → LeavesLast line (1 + length lines) old new before after fault
      → LeavesNext input lines old new before after fault

-- lines of an input were taken, and then the next one was left
pub record LeavesServed (input : Option (List ℕ)) (old new : EngineState)
    (before after : Option (List ℕ)) (fault : ServeFault) : Type 0 where
  pub lines : List Line
  pub engine : EngineState
  pub written : Option (List ℕ)
  pub served : Serves lines old engine before written
  pub next : LeavesNext input lines engine new written after fault

-- the first line was written, and then the lines of an input were taken, all of them or up to one
-- that was left; or that line was not written, or not all of it, and no line was taken
pub data ServesLines (first : List ℕ) (input : Option (List ℕ)) (old new : EngineState)
    (before after : Option (List ℕ)) : Type 0 where
  all_served : (told : Option (List ℕ)) → Appends before told first
      → ServesAll input old new told after → ServesLines first input old new before after
  one_left : (told : Option (List ℕ)) (fault : ServeFault) → Appends before told first
      → LeavesServed input old new told after fault
      → ServesLines first input old new before after
  not_begun : (fault : ServeFault) → new ≡ old → LeavesLine before after first fault
      → ServesLines first input old new before after

-- the first line was written, and then all lines of an input were taken
pub record ServesAllLines (first : List ℕ) (input : Option (List ℕ)) (old new : EngineState)
    (before after : Option (List ℕ)) : Type 0 where
  pub told : Option (List ℕ)
  pub begun : Appends before told first
  pub served : ServesAll input old new told after

-- an engine ran by the calls of the lines of such an input, and that was written; and then the log
-- was forced and pages were written, and no other call was made
pub record LivesByLines (first : List ℕ) (input : Option (List ℕ)) (old new : EngineState)
    (before after : Option (List ℕ)) : Type 0 where
  pub end : EngineState
  pub served : ServesLines first input old end before after
  pub closed : RunsBy IsOfClosing IsAnyReply end new

-- it ran by the calls of all lines of that input, and then it was closed well
pub record LivesByAllLines (first : List ℕ) (input : Option (List ℕ)) (old new : EngineState)
    (before after : Option (List ℕ)) : Type 0 where
  pub end : EngineState
  pub served : ServesAllLines first input old end before after
  pub closed : ClosesWell end new
