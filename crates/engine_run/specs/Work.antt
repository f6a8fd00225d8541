-- What a checkpoint or a copy answers.
use Rattle.std.specs.Prelude.{ℕ, ◌≡◌, ◌<◌, ◌⊎◌, length, Ok, Err}
use Rattle.copy_vault.specs.declared.copy_id.CopyKind.{CopyKind}
use Rattle.copy_vault.specs.declared.copy_id.CopyKind.TheVariants.{Full, Inc}
use Rattle.copy_vault.specs.Vault.{pages_read, state_of}
use Rattle.engine_calls.specs.declared.event.Answer.TheVariants as answer
use Rattle.engine_calls.specs.declared.event.Event.{Event}
use Rattle.engine_calls.specs.declared.event.Event.TheVariants as event
use Rattle.engine_calls.specs.declared.event.Took.{Took}
use Rattle.engine_calls.specs.declared.refusal.Refusal.{Refusal}
use Rattle.engine_rules.specs.Step.{took_answer}
use Rattle.engine_run.specs.Replies.{EngineCall, RepliesBy}
use Rattle.engine_run.specs.declared.work.Work.{Work}
use Rattle.engine_run.specs.declared.work.Work.TheVariants.{Copied, Pointed}

-- it is the Point that an engine replies to the end of a checkpoint, by such a call
abbrev pub IsPointedBy : EngineCall → Work → Type 0
IsPointedBy call (Pointed point) =
    RepliesBy call event.CkptEnd (Ok (answer.Point point.begin point.end point.redo))
IsPointedBy call other = ⊥

-- the event that begins a copy of this kind
abbrev pub copy_event : CopyKind → Event
copy_event Full = event.CopyFull
copy_event (Inc parent) = event.CopyInc parent

-- an engine replies so to the begin of a copy of this kind, by such a call, and the copy is of so
-- many pages
pub record OpensCopy (call : EngineCall) (kind : CopyKind) (id pages : ℕ) : Type 0 where
  pub reply : RepliesBy call (copy_event kind) (Ok (answer.Copied id))
  pub count : pages ≡ length (pages_read (state_of reply.engine.after.copies id))

-- an engine has a copy decide of a page, by such a call
abbrev pub Takes : EngineCall → ℕ → ℕ → Type 0
Takes call id page = (took : Took) × RepliesBy call (event.Take id page) (Ok (took_answer took))

-- of each of the first pages
abbrev pub AreTaken : EngineCall → ℕ → ℕ → Type 0
AreTaken call id count = (page : ℕ) → page < count → Takes call id page

-- it is of the copy of this id and kind, and an engine replies so to the end of that copy
abbrev pub IsSealedBy : EngineCall → ℕ → CopyKind → Work → Type 0
IsSealedBy call id kind (Copied of_id of_kind taken) =
    (of_id ≡ id) × (of_kind ≡ kind) × RepliesBy call (event.Seal id) (Ok (answer.Sealed taken))
IsSealedBy call id kind other = ⊥

-- it is of a copy of this kind that was begun and sealed
pub record IsCopiedBy (call : EngineCall) (kind : CopyKind) (work : Work) : Type 0 where
  pub id : ℕ
  pub pages : ℕ
  pub opened : OpensCopy call kind id pages
  pub sealed : IsSealedBy call id kind work

-- and each page of the copy was taken
pub record IsCopiedAlone (call : EngineCall) (kind : CopyKind) (work : Work) : Type 0 where
  pub copied : IsCopiedBy call kind work
  pub taken : AreTaken call copied.id copied.pages

-- one of the first pages was refused so to a copy
pub record RefusesTake (call : EngineCall) (id count : ℕ) (why : Refusal) : Type 0 where
  pub page : ℕ
  pub within : page < count
  pub reply : RepliesBy call (event.Take id page) (Err why)

-- the begin of a copy of this kind was refused so, or a take of one of its pages, or its end
abbrev pub RefusesCopying : EngineCall → CopyKind → Refusal → Type 0
RefusesCopying call kind why =
    RepliesBy call (copy_event kind) (Err why)
    ⊎ ((id : ℕ) × (pages : ℕ) × OpensCopy call kind id pages
    × (RefusesTake call id pages why ⊎ RepliesBy call (event.Seal id) (Err why)))
