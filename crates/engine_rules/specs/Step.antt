-- One call of the engine: what it may answer, and what stands after it.
use Rattle.std.specs.Prelude.{ℕ, ◌≡◌, ◌<◌, ◌≤◌, ◌⊎◌, Some, None, IsSome, IsSomeAnd, Result, Ok}
use Rattle.std.specs.Prelude.{Err, false}
use Rattle.buffer_pool.specs.Frames.{is_resident}
use Rattle.log_records.specs.Log.{lsn_of}
use Rattle.log_rules.specs.Checkpoint.{open_checkpoint}
use Rattle.log_store.specs.Stores.{ForceFails, Forced, StoreCall, SyncCall}
use Rattle.log_store.specs.WrittenLog.{WrittenLog, end_up_to}
use Rattle.engine_calls.specs.declared.event.Answer.{Answer}
use Rattle.engine_calls.specs.declared.event.Answer.TheVariants as answer
use Rattle.engine_calls.specs.declared.event.Event.{Event}
use Rattle.engine_calls.specs.declared.event.Event.TheVariants as event
use Rattle.engine_calls.specs.declared.event.Gathered.{Gathered}
use Rattle.engine_calls.specs.declared.event.Gathered.TheVariants as gathered
use Rattle.engine_calls.specs.declared.event.SteppedBack.{SteppedBack}
use Rattle.engine_calls.specs.declared.event.SteppedBack.TheVariants as stepped
use Rattle.engine_calls.specs.declared.event.Took.{Took}
use Rattle.engine_calls.specs.declared.event.Took.TheVariants as took
use Rattle.engine_calls.specs.declared.event.Undone.{Undone}
use Rattle.engine_calls.specs.declared.event.Undone.TheVariants as undone
use Rattle.engine_calls.specs.declared.refusal.Refusal.{Refusal}
use Rattle.engine_calls.specs.declared.refusal.Refusal.TheVariants.{CommitUnsure, LogFault}
use Rattle.engine_calls.specs.declared.refusal.Refusal.TheVariants.{OutOfMemory, StoreFault}
use Rattle.engine_rules.specs.EngineState.{EngineState, with_appended, closed, commit_record}
use Rattle.engine_rules.specs.EngineView.{EngineView}
use Rattle.engine_rules.specs.EngineState.{Fetches, effect, end}
use Rattle.engine_rules.specs.EngineState.{forced_to, gathered_record, image_of, log_of, page_now}
use Rattle.engine_rules.specs.EngineState.{taken_back, with_stored}
use Rattle.engine_rules.specs.Refusal.{refusal}
use Rattle.engine_rules.specs.Repair.{MayBeRepaired}

-- some records more are forced, but not all below an LSN: the device failed at one of them
pub record ForcedPart (target : ℕ) (old new : EngineState) : Type 0 where
  pub reached : (k : ℕ) × (lsn_of k < target) × (new ≡ forced_to old (lsn_of k))
  pub no_less : old.forced_end ≤ new.forced_end

-- the log of an engine, with its device
abbrev pub written_log_of : {S D : Type 0} → EngineView S D → WrittenLog D
written_log_of it = record {
  log = log_of it.state;
  forced_end = it.state.forced_end;
  room = 0;
  device = it.device;
}

-- each record between the two forced ends was stored in order, by one call of the device for each,
-- then one call synced them, and no other call was made
abbrev pub Forces : {S D : Type 0} → StoreCall D → SyncCall D → EngineView S D → EngineView S D
    → Type 0
Forces called synced old new = Forced called synced (written_log_of old) (written_log_of new)

-- a store of one of them failed, and those before it were synced; or their sync did, and none of
-- them counts as forced
abbrev pub FailsForcing : {S D : Type 0} → StoreCall D → SyncCall D → EngineView S D → EngineView S D
    → Type 0
FailsForcing called synced old new =
    ForceFails called synced (written_log_of old) (written_log_of new)

-- the image that was to be stored is, or the old page stays
abbrev pub MayBeStored : ℕ → EngineState → EngineState → Type 0
MayBeStored page old new = IsSomeAnd (image_of old page)
    (λ image. (new ≡ old) ⊎ (new ≡ with_stored old page image))

-- a call that takes memory is refused some; a step of a gather, or back to a savepoint, takes it
-- for a record alone, and a read for a page that it fetches
abbrev pub TakesMemory : EngineState → Event → Type 0
TakesMemory s (event.Read page slot) = is_resident s.resident page ≡ false
TakesMemory s (event.Savepoint txn) = ⊥
TakesMemory s (event.UndoTo txn at) = IsSome (taken_back s txn at)
TakesMemory s event.Force = ⊥
TakesMemory s (event.WriteEnd page) = ⊥
TakesMemory s event.CkptGather = IsSome (gathered_record s)
TakesMemory s (event.Seal copy) = ⊥
TakesMemory s (event.DropCopy copy) = ⊥
TakesMemory s other = Unit {0}

-- a page does not come into memory, nor is it changed: for want of memory, or since the store
-- failed at a page that is not there
abbrev pub FailsFetching : EngineState → ℕ → Refusal → Type 0
FailsFetching s page OutOfMemory = Unit {0}
FailsFetching s page StoreFault = is_resident s.resident page ≡ false
FailsFetching s page other = ⊥

-- the call fails so for want of memory or by a device, and this stands then
abbrev pub Fails : EngineState → Event → Refusal → EngineState → Type 0
Fails old event OutOfMemory new = TakesMemory old event × (new ≡ old)
Fails old event.Force LogFault new = ForcedPart (end old) old new
Fails old (event.WriteBegin page) LogFault new =
    ForcedPart (end_up_to (log_of old) (page_now old page).lsn) old new
Fails old (event.WriteEnd page) StoreFault new = MayBeStored page old new
Fails old (event.Commit txn) (CommitUnsure lsn) new =
    let after = with_appended old (commit_record old txn) in
    (lsn ≡ end old) × ForcedPart (end after) after new
Fails old event.CkptEnd LogFault new =
    IsSomeAnd (open_checkpoint old.log)
    (λ c. let after = closed old c in ForcedPart (end after) after new)
Fails old (event.Take copy page) StoreFault new = new ≡ old
Fails old (event.Repair copy page) LogFault new =
    ForcedPart (end_up_to (log_of old) (page_now old page).lsn) old new
Fails old (event.Repair copy page) StoreFault new = MayBeRepaired page old new
Fails old (event.Extend count) StoreFault new = new ≡ old
Fails old event StoreFault new = Fetches old event × (new ≡ old)
Fails old event refusal new = ⊥

-- from old, an engine may reply so to the event and go on to new
abbrev pub Step : EngineState → Event → Result Answer Refusal → EngineState → Type 0
Step old event (Ok answer) new =
    (refusal old event ≡ None) × (answer ≡ (effect old event).answer)
    × (new ≡ (effect old event).state)
Step old event (Err why) new =
    ((refusal old event ≡ Some why) × (new ≡ old))
    ⊎ ((refusal old event ≡ None) × Fails old event why new)

-- the reply of a call whose answers have a type of their own
abbrev pub reply_of : {T : Type 0} → (T → Answer) → Result T Refusal → Result Answer Refusal
reply_of answered (Ok value) = Ok (answered value)
reply_of answered (Err why) = Err why

-- what a step of a rollback answers
abbrev pub undo_answer : Undone → Answer
undo_answer (undone.Undid lsn) = answer.Undid lsn
undo_answer (undone.Ended lsn) = answer.Ended lsn

-- what a step back to a savepoint answers
abbrev pub step_back_answer : SteppedBack → Answer
step_back_answer (stepped.Undid lsn) = answer.Undid lsn
step_back_answer stepped.Reached = answer.Reached

-- what a step of a gather answers
abbrev pub gather_answer : Gathered → Answer
gather_answer gathered.More = answer.More
gather_answer gathered.Done = answer.Done

-- what a copy answers of a page
abbrev pub took_answer : Took → Answer
took_answer (took.Taken lsn) = answer.Taken lsn
took_answer took.Kept = answer.Kept

-- a fault of the log's device
abbrev pub IsByDevice : Refusal → Type 0
IsByDevice LogFault = Unit {0}
IsByDevice (CommitUnsure lsn) = Unit {0}
IsByDevice other = ⊥

-- a fault of the page store
abbrev pub IsByStore : Refusal → Type 0
IsByStore StoreFault = Unit {0}
IsByStore other = ⊥

-- the event forces nothing, so no call of the log's device is made
abbrev pub LeavesDevice : Event → Type 0
LeavesDevice (event.Commit txn) = ⊥
LeavesDevice event.Force = ⊥
LeavesDevice (event.WriteBegin page) = ⊥
LeavesDevice event.CkptEnd = ⊥
LeavesDevice (event.Repair copy page) = ⊥
LeavesDevice other = Unit {0}

-- a reply that tells of a fault of such a kind
abbrev pub IsFaultReply : (Refusal → Type 0) → Result Answer Refusal → Type 0
IsFaultReply IsOfKind (Ok answer) = ⊥
IsFaultReply IsOfKind (Err why) = IsOfKind why

-- so many failures before a call, and so many after it: more just where its reply tells of one
pub record TellsOfFault (IsOfKind : Refusal → Type 0) (before : ℕ) (reply : Result Answer Refusal)
    (after : ℕ) : Type 0 where
  pub sound : ¬ IsFaultReply IsOfKind reply → after ≡ before
  pub fault : IsFaultReply IsOfKind reply → before < after
