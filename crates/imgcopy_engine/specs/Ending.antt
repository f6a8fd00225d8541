-- How a transaction of a user ends.
use Rattle.std.specs.Prelude.{ℕ, ◌≡◌, ◌++◌, ◌∷◌, ◌⊎◌, [], List, length, Result, Ok, Err}
use Rattle.std.specs.List.{All}
use Rattle.log_records.specs.declared.limits.TheConstants.{MAX_RECORDS}
use Rattle.settlement.specs.Receipt.{step_receipt}
use Rattle.settlement.specs.declared.receipt.Receipt.{Receipt}
use Rattle.settlement.specs.declared.receipt.Receipt.TheVariants.{Stepped}
use Rattle.settlement.specs.declared.receipt.TxnStep.TheVariants as step
use Rattle.engine_calls.specs.declared.event.Answer.{Answer}
use Rattle.engine_calls.specs.declared.event.Answer.TheVariants as answer
use Rattle.engine_calls.specs.declared.event.Event.{Event}
use Rattle.engine_calls.specs.declared.event.Event.TheVariants as event
use Rattle.engine_calls.specs.declared.refusal.Refusal.{Refusal}
use Rattle.engine_calls.specs.declared.refusal.Refusal.TheVariants.{CommitUnsure, NoSavepoint, TxnRolling}
use Rattle.imgcopy_engine.specs.declared.stop.Committed.{Committed}
use Rattle.imgcopy_engine.specs.declared.stop.NotDone.{NotDone}
use Rattle.imgcopy_engine.specs.declared.stop.NotDone.TheVariants as unfinished
use Rattle.imgcopy_engine.specs.declared.stop.Stop.{Stop}
use Rattle.imgcopy_engine.specs.declared.stop.Stop.TheVariants.{Refused}

-- what users say of one call: the user before it, the event, what it was told, and the user after it
abbrev pub UserCall : Type 0 → Type 1
UserCall C = C → Event → Result Answer Refusal → C → Type 0

-- receipts went on from these: none is lost
abbrev pub Goes : List Receipt → List Receipt → Type 0
Goes old new = (more : List Receipt) × (new ≡ old ++ more)

-- this receipt tells that a change of the transaction was taken back
abbrev pub IsCompOf : ℕ → Receipt → Type 0
IsCompOf txn receipt = (lsn : ℕ) × (receipt ≡ Stepped (step_receipt lsn txn step.Comp))

-- so many changes of a transaction were taken back, and no other receipts came
pub record TakesBack (txn count : ℕ) (old new : List Receipt) : Type 0 where
  pub comps : List Receipt
  pub each : All (IsCompOf txn) comps
  pub many : length comps ≡ count
  pub behind : new ≡ old ++ comps

module _ {C : Type 0} (receipts : C → List Receipt) (called : UserCall C) where
  -- this is told of a call, and it leaves no receipt
  pub record LeavesNone (old : C) (event : Event) (reply : Result Answer Refusal) (new : C) : Type 0 where
    pub call : called old event reply new
    pub same : receipts new ≡ receipts old

  -- this step of a transaction was made, and its receipt is the last one
  pub record Steps (old : C) (event : Event) (reply : Result Answer Refusal) (receipt : Receipt) (new : C)
      : Type 0 where
    pub call : called old event reply new
    pub last : receipts new ≡ receipts old ++ receipt ∷ []

  -- ---- all changes are taken back

  -- a transaction is rolling back: by its Abort, or since it was before
  abbrev pub Aborts : ℕ → C → C → Type 0
  Aborts txn old new =
      ((lsn : ℕ) × Steps old (event.Abort txn) (Ok (answer.Logged lsn))
      (Stepped (step_receipt lsn txn step.Abort)) new)
      ⊎ LeavesNone old (event.Abort txn) (Err TxnRolling) new

  -- it is, and so many changes are taken back
  pub record GoesBack (txn count : ℕ) (old new : C) : Type 0 where
    pub rolling : C
    pub aborts : Aborts txn old rolling
    pub undone : TakesBack txn count (receipts rolling) (receipts new)

  -- a transaction has ended, with all its changes taken back: the last receipt is that of its End, at
  -- this LSN
  pub record RollsBack (txn lsn : ℕ) (old new : C) : Type 0 where
    pub count : ℕ
    pub undone : C
    pub back : GoesBack txn count old undone
    pub ends : Steps undone (event.UndoStep txn) (Ok (answer.Ended lsn))
        (Stepped (step_receipt lsn txn step.End)) new

  -- its rollback met this refusal: its Abort was refused, or a step back was; or more steps were made
  -- than a log may have records
  pub data StaysOpen (txn : ℕ) (why : Refusal) (old new : C) : Type 0 where
    not_aborted : LeavesNone old (event.Abort txn) (Err why) new → StaysOpen txn why old new
    not_undone : (count : ℕ) (undone : C) → GoesBack txn count old undone
        → LeavesNone undone (event.UndoStep txn) (Err why) new → StaysOpen txn why old new
    without_end : why ≡ TxnRolling → GoesBack txn MAX_RECORDS old new → StaysOpen txn why old new

  -- ---- changes behind a savepoint are taken back

  -- those of a transaction that were made behind a savepoint are taken back: it is reached
  pub record StepsBack (txn savepoint : ℕ) (old new : C) : Type 0 where
    pub count : ℕ
    pub undone : C
    pub back : TakesBack txn count (receipts old) (receipts undone)
    pub reached : LeavesNone undone (event.UndoTo txn savepoint) (Ok answer.Reached) new

  -- a step back was refused, or more were made than a log may have records
  pub data StaysBehind (txn savepoint : ℕ) (why : Refusal) (old new : C) : Type 0 where
    refused : (count : ℕ) (undone : C) → TakesBack txn count (receipts old) (receipts undone)
        → LeavesNone undone (event.UndoTo txn savepoint) (Err why) new
        → StaysBehind txn savepoint why old new
    without_end : why ≡ NoSavepoint → TakesBack txn MAX_RECORDS (receipts old) (receipts new)
        → StaysBehind txn savepoint why old new

  -- ---- the end of a transaction

  -- a transaction that was stopped so has ended, with all its changes taken back; or its rollback met
  -- a refusal, and it is left
  abbrev pub EndsStopped : {E : Type 0} → ℕ → C → Stop E → NotDone E → C → Type 0
  EndsStopped txn old stop (unfinished.Stopped told) new =
      (told ≡ stop) × ((lsn : ℕ) × RollsBack txn lsn old new)
  EndsStopped txn old stop (unfinished.Left left why) new = (left ≡ txn) × StaysOpen txn why old new
  EndsStopped txn old stop other new = ⊥

  -- nobody knows whether a commit lasts: its Commit stands at this LSN, and its receipt is the last
  -- one
  abbrev pub EndsUnsure : {E : Type 0} → ℕ → ℕ → C → NotDone E → C → Type 0
  EndsUnsure txn lsn old told new =
      (told ≡ unfinished.Unsure lsn) × Steps old (event.Commit txn) (Err (CommitUnsure lsn))
      (Stepped (step_receipt lsn txn step.Unsure)) new

  -- a commit was refused, and left no receipt; the transaction was stopped by that
  pub record EndsUncommitted {E : Type 0} (txn : ℕ) (why : Refusal) (old : C) (told : NotDone E)
      (new : C) : Type 0 where
    pub known : (lsn : ℕ) → ¬ (why ≡ CommitUnsure lsn)
    pub asked : C
    pub refused : LeavesNone old (event.Commit txn) (Err why) asked
    pub stopped : EndsStopped txn asked (Refused why) told new

  -- a transaction is committed at this LSN, and the receipt of its Commit is the last one
  abbrev pub Commits : ℕ → ℕ → C → C → Type 0
  Commits txn lsn old new =
      Steps old (event.Commit txn) (Ok (answer.Logged lsn))
      (Stepped (step_receipt lsn txn step.Commit)) new

  -- a commit is unsure, or was refused; and this is told of it
  abbrev pub EndsRefused : {E : Type 0} → ℕ → C → NotDone E → C → Type 0
  EndsRefused txn old told new =
      ((lsn : ℕ) × EndsUnsure txn lsn old told new)
      ⊎ ((why : Refusal) × EndsUncommitted txn why old told new)

  -- a transaction ends as its work did
  abbrev pub EndsAs : {T E : Type 0} → ℕ → C → Result T (Stop E) → Result (Committed T) (NotDone E)
      → C → Type 0
  EndsAs txn old (Ok value) (Ok it) new = (it.value ≡ value) × Commits txn it.lsn old new
  EndsAs txn old (Ok value) (Err told) new = EndsRefused txn old told new
  EndsAs txn old (Err stop) (Err told) new = EndsStopped txn old stop told new
  EndsAs txn old (Err stop) (Ok it) new = ⊥
