-- The calls that the engine of an open database makes.
use Rattle.std.specs.Prelude.{ℕ, ◌≡◌, List, [], ◌∷◌, ◌++◌, Option, Some, None, Result, Ok, Err}
use Rattle.std.specs.List.{All}
use Rattle.engine_calls.specs.EventFits.{EventFits}
use Rattle.engine_calls.specs.declared.event.Answer.{Answer}
use Rattle.engine_calls.specs.declared.event.Answer.TheVariants.{Copied}
use Rattle.engine_calls.specs.declared.event.Event.{Event}
use Rattle.engine_calls.specs.declared.event.Event.TheVariants.{Abort, Add, Begin, CkptBegin}
use Rattle.engine_calls.specs.declared.event.Event.TheVariants.{CkptEnd, CkptGather, Commit}
use Rattle.engine_calls.specs.declared.event.Event.TheVariants.{CopyFull, CopyInc, DropCopy, Extend}
use Rattle.engine_calls.specs.declared.event.Event.TheVariants.{Force, Read, Repair, Savepoint}
use Rattle.engine_calls.specs.declared.event.Event.TheVariants.{Seal, Set, Take, UndoStep, UndoTo}
use Rattle.engine_calls.specs.declared.event.Event.TheVariants.{WriteBegin, WriteEnd}
use Rattle.engine_calls.specs.declared.refusal.Refusal.{Refusal}
use Rattle.engine_calls.specs.declared.refusal.Refusal.TheVariants.{CopyNotComplete, CopyNotOpen}
use Rattle.engine_calls.specs.declared.refusal.Refusal.TheVariants.{NoCkpt}
use Rattle.engine_rules.specs.EngineState.{EngineState}
use Rattle.engine_rules.specs.Run.{Run}
use Rattle.engine_rules.specs.Step.{IsByDevice, IsByStore, IsFaultReply, Step}
use Rattle.session_lines.specs.Said.{IsSaidOf}
use Rattle.database_session.specs.declared.call_kind.CallKind.{CallKind}
use Rattle.database_session.specs.declared.call_kind.CallKind.TheVariants.{BeginsCopy}
use Rattle.database_session.specs.declared.call_kind.CallKind.TheVariants.{EndsCheckpoint, Plain}
use Rattle.database_session.specs.declared.call_kind.CallKind.TheVariants.{Seals}
use Rattle.session_lines.specs.declared.said.Said.{Said}
use Rattle.session_lines.specs.declared.said.Said.TheVariants.{Reply}

-- ---- runs

-- an engine made some calls, one after another: each is such a call, and has such a reply
pub record RunsBy (IsCall : Event → Type 0) (IsReply : Result Answer Refusal → Type 0)
    (old new : EngineState) : Type 0 where
  pub events : List Event
  pub replies : List (Result Answer Refusal)
  pub calls : All IsCall events
  pub answers : All IsReply replies
  pub run : Run old events replies new

abbrev pub IsAnyReply : Result Answer Refusal → Type 0
IsAnyReply reply = Unit {0}

-- it made some calls, whose numbers fit
abbrev pub Lives : EngineState → EngineState → Type 0
Lives = RunsBy EventFits IsAnyReply

-- a call that is made where a database is closed: it forces the log, or writes a page
abbrev pub IsOfClosing : Event → Type 0
IsOfClosing Force = Unit {0}
IsOfClosing (WriteBegin page) = Unit {0}
IsOfClosing (WriteEnd page) = Unit {0}
IsOfClosing other = ⊥

-- no file failed
abbrev pub IsNoFault : Result Answer Refusal → Type 0
IsNoFault reply = ¬ IsFaultReply IsByDevice reply × ¬ IsFaultReply IsByStore reply

-- ---- the calls of one line

-- it neither makes a file nor begins a copy, so that its answer is the engine's
abbrev pub IsPlain : Event → Type 0
IsPlain (Seal id) = ⊥
IsPlain CkptEnd = ⊥
IsPlain CopyFull = ⊥
IsPlain (CopyInc parent) = ⊥
IsPlain Begin = Unit {0}
IsPlain (Set txn page slot number) = Unit {0}
IsPlain (Add txn page slot amount) = Unit {0}
IsPlain (Read page slot) = Unit {0}
IsPlain (Commit txn) = Unit {0}
IsPlain (Abort txn) = Unit {0}
IsPlain (UndoStep txn) = Unit {0}
IsPlain (Savepoint txn) = Unit {0}
IsPlain (UndoTo txn savepoint) = Unit {0}
IsPlain Force = Unit {0}
IsPlain (WriteBegin page) = Unit {0}
IsPlain (WriteEnd page) = Unit {0}
IsPlain CkptBegin = Unit {0}
IsPlain CkptGather = Unit {0}
IsPlain (Take copy page) = Unit {0}
IsPlain (DropCopy copy) = Unit {0}
IsPlain (Repair copy page) = Unit {0}
IsPlain (Extend count) = Unit {0}

-- the call that begins a copy: a full one, or one on this parent
abbrev pub copy_call : Option ℕ → Event
copy_call None = CopyFull
copy_call (Some parent) = CopyInc parent

-- copies were begun so, and each was dropped at once: their ids are not given
pub data PassesOver (begin : Event) : List Event → List (Result Answer Refusal) → Type 0 where
  none_passed : PassesOver begin [] []
  one_passed : (events : List Event) (replies : List (Result Answer Refusal)) (id : ℕ)
      (reply : Result Answer Refusal) → PassesOver begin events replies
      → PassesOver begin (events ++ begin ∷ DropCopy id ∷ []) (replies ++ Ok (Copied id) ∷ reply ∷ [])

-- what a call is to do beside the engine's step
abbrev pub IsOfKind : Event → CallKind → Type 0
IsOfKind event (Seals id) = event ≡ Seal id
IsOfKind event EndsCheckpoint = event ≡ CkptEnd
IsOfKind event (BeginsCopy parent) = event ≡ copy_call parent
IsOfKind event Plain = IsPlain event

-- the engine made these calls for the call of a line, and gave these replies; of that, this is said
pub data SaysOf : Event → List Event → List (Result Answer Refusal) → Said → Type 0 where
  -- the reply
  plain : (event : Event) (reply : Result Answer Refusal) → IsPlain event
      → SaysOf event (event ∷ []) (reply ∷ []) (Reply reply)
  -- the reply, or that the file is not in place, also where the call was made by an earlier line
  sealed : (id : ℕ) (reply : Result Answer Refusal) (said : Said) → IsSaidOf reply CopyNotOpen said
      → SaysOf (Seal id) (Seal id ∷ []) (reply ∷ []) said
  ended : (reply : Result Answer Refusal) (said : Said) → IsSaidOf reply NoCkpt said
      → SaysOf CkptEnd (CkptEnd ∷ []) (reply ∷ []) said
  -- the last reply, behind copies that were passed over
  begun : (parent : Option ℕ) (events : List Event) (replies : List (Result Answer Refusal))
      (reply : Result Answer Refusal) → PassesOver (copy_call parent) events replies
      → SaysOf (copy_call parent) (events ++ copy_call parent ∷ []) (replies ++ reply ∷ [])
      (Reply reply)
  -- the copy that a new one is to stand on waits for its file, and no call is made
  waits : (parent : ℕ) → SaysOf (CopyInc parent) [] [] (Reply (Err CopyNotComplete))

-- the engine made just this call, and its reply is said
abbrev pub MakesOne : Event → EngineState → Said → EngineState → Type 0
MakesOne event old said new =
    (reply : Result Answer Refusal) × Step old event reply new × (said ≡ Reply reply)

-- the engine made calls for the call of a line, and this is said of them
pub record Makes (event : Event) (old : EngineState) (said : Said) (new : EngineState)
    : Type 0 where
  pub events : List Event
  pub replies : List (Result Answer Refusal)
  pub fit : All EventFits events
  pub run : Run old events replies new
  pub says : SaysOf event events replies said
