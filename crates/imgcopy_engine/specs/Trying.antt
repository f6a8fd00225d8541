-- Transactions and parts of them whose work is a closure.
use Rattle.std.specs.Prelude.{ℕ, ◌≡◌, ◌+◌, ◌≤◌, ◌⊎◌, List, Result, Ok, Err}
use Rattle.std.specs.Borrow.{MutBor}
use Rattle.std.specs.Fn.{Once}
use Rattle.settlement.specs.Receipt.{step_receipt}
use Rattle.settlement.specs.declared.receipt.Receipt.{Receipt}
use Rattle.settlement.specs.declared.receipt.Receipt.TheVariants.{Stepped}
use Rattle.settlement.specs.declared.receipt.TxnStep.TheVariants as step
use Rattle.engine_calls.specs.declared.event.Answer.TheVariants as answer
use Rattle.engine_calls.specs.declared.event.Event.TheVariants as event
use Rattle.engine_calls.specs.declared.refusal.Refusal.{Refusal}
use Rattle.engine_calls.specs.declared.refusal.Refusal.TheVariants.{SlotBusy}
use Rattle.imgcopy_engine.specs.declared.stop.Committed.{Committed}
use Rattle.imgcopy_engine.specs.declared.stop.NotDone.{NotDone}
use Rattle.imgcopy_engine.specs.declared.stop.NotDone.TheVariants as unfinished
use Rattle.imgcopy_engine.specs.declared.stop.Stop.{Stop}
use Rattle.imgcopy_engine.specs.declared.stop.Stop.TheVariants.{Refused}
use Rattle.imgcopy_engine.specs.Ending.{EndsAs, LeavesNone, StaysBehind, Steps, StepsBack, UserCall}

-- a call of f at a `&mut` to s and at x may give r, and leave s'
pub record ReturnsWithState {F S A R : Type 0}
    (g : Once F (MutBor S × (A × Unit {0})) (R × (MutBor S × Unit {0}))) (f : F) (s : S) (x : A) (r : R)
    (s' : S) : Type 0 where
  pub shown : MutBor S
  pub shows : shown.now ≡ s
  pub left : MutBor S
  pub met : g.post f (shown, (x, tt)) (r, (left, tt))
  pub leaves : left.now ≡ s'

-- a slot is busy
abbrev pub IsSlotBusy : Refusal → Type 0
IsSlotBusy why = (holder : ℕ) × (why ≡ SlotBusy holder)

-- the transaction met a slot that was busy, and has ended, with all its changes taken back
abbrev pub IsBusy : {T E : Type 0} → Result (Committed T) (NotDone E) → Type 0
IsBusy (Ok it) = ⊥
IsBusy (Err (unfinished.Stopped (Refused why))) = IsSlotBusy why
IsBusy (Err other) = ⊥

module _ {C T E F : Type 0} (receipts : C → List Receipt) (called : UserCall C)
    (works : F → C → ℕ → Result T (Stop E) → F → C → Type 0) where
  -- a transaction was begun, its work was done in it, and it has ended as the work has
  pub record Tried (old : C) (work : F) (result : Result (Committed T) (NotDone E)) (next : F) (new : C)
      : Type 0 where
    pub txn : ℕ
    pub lsn : ℕ
    pub begun : C
    pub begins : Steps receipts called old event.Begin (Ok (answer.Began txn lsn))
        (Stepped (step_receipt lsn txn step.Begin)) begun
    pub outcome : Result T (Stop E)
    pub worked : C
    pub does : works work begun txn outcome next worked
    pub ends : EndsAs receipts called txn worked outcome result new

  -- it could not be begun
  pub record IsRefused (old : C) (work : F) (result : Result (Committed T) (NotDone E)) (next : F) (new : C)
      : Type 0 where
    pub why : Refusal
    pub refused : LeavesNone receipts called old event.Begin (Err why) new
    pub told : result ≡ Err (unfinished.NotBegun why)
    pub same : next ≡ work

  abbrev pub Tries : C → F → Result (Committed T) (NotDone E) → F → C → Type 0
  Tries old work result next new = Tried old work result next new ⊎ IsRefused old work result next new

  -- so many tries, each in a transaction of its own, which met a slot that was busy
  pub data BusyTries (old : C) (work : F) : ℕ → F → C → Type 0 where
    none : BusyTries old work 0 work old
    more : {count : ℕ} {f next : F} {c new : C} {result : Result (Committed T) (NotDone E)}
        → BusyTries old work count f c → Tries c f result next new → IsBusy result
        → BusyTries old work (count + 1) next new

  -- the work was tried until it met no slot that was busy, or so many times more; what is told is of the
  -- last try
  pub record Transacts (tries : ℕ) (old : C) (work : F) (result : Result (Committed T) (NotDone E)) (new : C)
      : Type 0 where
    pub count : ℕ
    pub before : F
    pub left : C
    pub busy : BusyTries old work count before left
    pub next : F
    pub last : Tries left before result next new
    pub few : count ≤ tries
    pub enough : IsBusy result → count ≡ tries

-- ---- a part of a transaction

module _ {C T E : Type 0} (receipts : C → List Receipt) (called : UserCall C)
    (does : C → ℕ → Result T (Stop E) → C → Type 0) where
  -- where a part was stopped, its changes are taken back to where it began; or that was refused, and
  -- the transaction is left
  abbrev pub EndsPart : ℕ → ℕ → C → Result T (Stop E) → Result T (NotDone E) → C → Type 0
  EndsPart txn savepoint old (Ok value) (Ok told) new = (told ≡ value) × (new ≡ old)
  EndsPart txn savepoint old (Ok value) (Err told) new = ⊥
  EndsPart txn savepoint old (Err stop) (Ok told) new = ⊥
  EndsPart txn savepoint old (Err stop) (Err (unfinished.Stopped told)) new =
      (told ≡ stop) × StepsBack receipts called txn savepoint old new
  EndsPart txn savepoint old (Err stop) (Err (unfinished.Left left why)) new =
      (left ≡ txn) × StaysBehind receipts called txn savepoint why old new
  EndsPart txn savepoint old (Err stop) (Err other) new = ⊥

  -- the place where the part began was named, and the part was done
  pub record PartDone (txn : ℕ) (old : C) (result : Result T (NotDone E)) (new : C) : Type 0 where
    pub savepoint : ℕ
    pub named : called old (event.Savepoint txn) (Ok (answer.Saved savepoint)) old
    pub outcome : Result T (Stop E)
    pub worked : C
    pub done : does old txn outcome worked
    pub ends : EndsPart txn savepoint worked outcome result new

  -- no place could be named, and the part was not done
  pub record PartRefused (txn : ℕ) (old : C) (result : Result T (NotDone E)) (new : C) : Type 0 where
    pub why : Refusal
    pub refused : called old (event.Savepoint txn) (Err why) old
    pub told : result ≡ Err (unfinished.NotBegun why)
    pub same : new ≡ old

  abbrev pub Attempts : ℕ → C → Result T (NotDone E) → C → Type 0
  Attempts txn old result new = PartDone txn old result new ⊎ PartRefused txn old result new
