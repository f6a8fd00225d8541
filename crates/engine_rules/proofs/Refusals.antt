-- What an event that is not refused has passed.
use Rattle.std.proofs.Common.{◌≡◌, ℕ, ◌+◌, ◌<◌, ◌≤◌, Bool, true, false, ◌&&◌, ◌||◌, not, length}
use Rattle.std.proofs.Common.{refl, sym, ap, ◌∙◌, subst}
use Rattle.std.specs.Prelude.{IfSome, Option, Some, None, is_none, is_some}
use Rattle.std.specs.Option.{option_map, option_map_or}
use Rattle.std.proofs.lemmas.Option.{cond_some, same_Some}
use Rattle.std.proofs.lemmas.Bool.{not-false, leb-false, ltb-false, ltb-true}
use Rattle.page_core.specs.declared.change.ChangeKind.{ChangeKind}
use Rattle.page_core.specs.declared.change.ChangeKind.TheVariants as kind
use Rattle.buffer_pool.specs.Frames.{is_full, is_resident}
use Rattle.buffer_pool.specs.Pool.{is_clean}
use Rattle.page_core.specs.declared.page.Page.{Page}
use Rattle.page_core.specs.declared.page.TheConstants.{MAX_PAGES, SLOTS}
use Rattle.log_records.specs.declared.limits.TheConstants.{MAX_OPEN, MAX_RECORDS}
use Rattle.log_records.specs.declared.record.Record.{Record}
use Rattle.log_rules.specs.Checkpoint.{Checkpoint, open_checkpoint}
use Rattle.log_rules.specs.Savepoints.{savepoint}
use Rattle.log_rules.specs.Transactions.{holder, is_open, is_rolling, last_of, open_in, owed}
use Rattle.log_rules.specs.Transactions.{pending}
use Rattle.log_rules.specs.declared.pending_change.PendingChange.{PendingChange}
use Rattle.copy_vault.specs.declared.fault.CopyFault.{CopyFault}
use Rattle.copy_vault.specs.declared.fault.CopyFault.TheVariants as fault
use Rattle.engine_calls.specs.declared.event.Event.{Event}
use Rattle.engine_calls.specs.declared.event.Event.TheVariants as event
use Rattle.engine_calls.specs.declared.refusal.Refusal.{Refusal}
use Rattle.engine_calls.specs.declared.refusal.Refusal.TheVariants.{CkptOpen, CommitUnsure}
use Rattle.engine_calls.specs.declared.refusal.Refusal.TheVariants.{GatherLeft, LogFault, LogFull}
use Rattle.engine_calls.specs.declared.refusal.Refusal.TheVariants.{NoCkpt, NoMaster, NoTxn}
use Rattle.engine_calls.specs.declared.refusal.Refusal.TheVariants.{PageDecided, NoWrite, NotDirty}
use Rattle.engine_calls.specs.declared.refusal.Refusal.TheVariants.{NotRolling, PageOut, SlotBusy}
use Rattle.engine_calls.specs.declared.refusal.Refusal.TheVariants.{SlotOut, TooManyTxns}
use Rattle.engine_calls.specs.declared.refusal.Refusal.TheVariants.{NoSavepoint, NotLarger}
use Rattle.engine_calls.specs.declared.refusal.Refusal.TheVariants.{PoolFull, TxnRolling}
use Rattle.engine_calls.specs.declared.refusal.Refusal.TheVariants.{WriteBegun}
use Rattle.engine_rules.specs.EngineState.{EngineState, gathered_record, image_of, page_needed}
use Rattle.engine_rules.specs.EngineState.{rec_lsn_of, taken_back, volume_pages}
use Rattle.engine_rules.specs.Gather.{Left, is_done, none_left, pages_left, txns_left}
use Rattle.engine_rules.specs.Refusal.{active_refusal, change_refusal, ckpt_refusal}
use Rattle.engine_rules.specs.Refusal.{has_no_room, frame_refusal, or_else, page_refusal}
use Rattle.engine_rules.specs.Refusal.{refused_if, refusal, rolling_refusal}
use Rattle.engine_calls.specs.Refusal.{of_vault}
use Rattle.engine_rules.specs.Step.{IsByDevice}

-- ---- one test, and two

pub none_of_both : (a b : Option Refusal) → or_else a b ≡ None → (a ≡ None) × (b ≡ None)
none_of_both None b none = (refl, none)
none_of_both (Some why) b none = absurd (cc)

pub not_refused : (test : Bool) (why : Refusal) → refused_if test why ≡ None → test ≡ false
not_refused false why none = refl
not_refused true why none = absurd (cc)

not_busy : (o : Option ℕ) → option_map SlotBusy o ≡ None → o ≡ None
not_busy None none = refl
not_busy (Some txn) none = absurd (cc)

-- ---- what each refusal tests

-- the transaction is open, and not rolling back
pub record ActiveIn (s : EngineState) (txn : ℕ) : Type 0 where
  pub still_open : is_open s.log txn ≡ true
  pub active : is_rolling s.log txn ≡ false

-- the slot is one of the volume
pub record SlotIn (s : EngineState) (page slot : ℕ) : Type 0 where
  pub within : page < volume_pages s
  pub fits : slot < SLOTS

-- so many records more, owed ones among them, still fit
abbrev pub HasRoomFor : EngineState → ℕ → Type 0
HasRoomFor s more = length s.log + owed s.log + more ≤ MAX_RECORDS

pub record ChangePasses (s : EngineState) (txn page slot : ℕ) (kind : ChangeKind) : Type 0 where
  pub active : ActiveIn s txn
  pub place : SlotIn s page slot
  pub free : holder s.log page slot kind txn ≡ None
  pub room : HasRoomFor s 2
  pub frame : frame_refusal s page ≡ None

pub record BeginPasses (s : EngineState) : Type 0 where
  pub few : length (open_in s.log) < MAX_OPEN
  pub room : HasRoomFor s 3

-- the transaction is open, and rolling back
pub record RollsIn (s : EngineState) (txn : ℕ) : Type 0 where
  pub still_open : is_open s.log txn ≡ true
  pub rolling : is_rolling s.log txn ≡ true

pub active_passes : (s : EngineState) (txn : ℕ) → active_refusal s txn ≡ None → ActiveIn s txn
active_passes s txn none =
    let both = none_of_both _ _ none in
    record { still_open = not-false _ (not_refused _ _ both.0); active = not_refused _ _ both.1 }

pub slot_passes : (s : EngineState) (page slot : ℕ) → page_refusal s page slot ≡ None → SlotIn s page slot
slot_passes s page slot none =
    let both = none_of_both _ _ none in
    record { within = leb-false _ _ (not_refused _ _ both.0); fits = leb-false _ _ (not_refused _ _ both.1) }

has_room : (s : EngineState) (more : ℕ) (why : Refusal) → refused_if (has_no_room s more) why ≡ None → HasRoomFor s more
has_room s more why none = ltb-false _ _ (not_refused _ why none)

pub change_passes : (s : EngineState) (txn page slot : ℕ) (kind : ChangeKind)
    → change_refusal s txn page slot kind ≡ None → ChangePasses s txn page slot kind
change_passes s txn page slot kind none =
    let active = none_of_both _ _ none in
    let place = none_of_both _ _ active.1 in
    let rest = none_of_both _ _ place.1 in
    let room = none_of_both _ _ rest.1 in
    record {
      active = active_passes s txn active.0;
      place = slot_passes s page slot place.0;
      free = not_busy _ rest.0;
      room = has_room s 2 _ room.0;
      frame = room.1;
    }

pub read_passes : (s : EngineState) (page slot : ℕ) → refusal s (event.Read page slot) ≡ None → SlotIn s page slot
read_passes s page slot none = slot_passes s page slot (none_of_both (page_refusal s page slot) _ none).0

pub begin_passes : (s : EngineState) → refusal s event.Begin ≡ None → BeginPasses s
begin_passes s none =
    let both = none_of_both _ _ none in
    record { few = leb-false _ _ (not_refused _ _ both.0); room = has_room s 3 _ both.1 }

-- a page that is not in memory and is not refused finds a frame
pub frame_passes : (s : EngineState) (page : ℕ) → frame_refusal s page ≡ None → is_resident s.resident page ≡ false
    → is_full s.frames (is_clean s.log s.written) s.resident ≡ false
frame_passes s page none absent =
    ap (λ (b : Bool). not b && is_full s.frames (is_clean s.log s.written) s.resident) (sym absent)
    ∙ not_refused _ PoolFull none

-- nor is the page that a call needs refused
pub needed_passes : (s : EngineState) (event : Event) → refusal s event ≡ None
    → IfSome (page_needed s event) (λ p. frame_refusal s p ≡ None)
needed_passes s (event.Set txn page slot number) none = (change_passes s txn page slot kind.Set none).frame
needed_passes s (event.Add txn page slot amount) none = (change_passes s txn page slot kind.Add none).frame
needed_passes s (event.Read page slot) none = (none_of_both (page_refusal s page slot) _ none).1
needed_passes s (event.UndoStep txn) none =
    by_last (last_of (pending s.log txn)) (none_of_both (rolling_refusal s txn) _ none).1
  where
    by_last : (o : Option PendingChange) → option_map_or (λ p. frame_refusal s p.page) o None ≡ None
        → IfSome (option_map (λ p. p.page) o) (λ p. frame_refusal s p ≡ None)
    by_last None none = tt
    by_last (Some p) none = none
needed_passes s (event.UndoTo txn at) none =
    by_taken (taken_back s txn at)
    (none_of_both (refused_if (is_none (savepoint s.log txn at)) NoSavepoint) _
    (none_of_both (active_refusal s txn) _ none).1).1
  where
    by_taken : (o : Option PendingChange) → option_map_or (λ p. frame_refusal s p.page) o None ≡ None
        → IfSome (option_map (λ p. p.page) o) (λ p. frame_refusal s p ≡ None)
    by_taken None none = tt
    by_taken (Some p) none = none
needed_passes s other none = tt

pub undo_passes : (s : EngineState) (txn : ℕ) → refusal s (event.UndoStep txn) ≡ None → RollsIn s txn
undo_passes s txn none =
    let rolls = none_of_both (rolling_refusal s txn) _ none in
    let both = none_of_both _ _ rolls.0 in
    record { still_open = not-false _ (not_refused _ _ both.0); rolling = not-false _ (not_refused _ _ both.1) }

pub back_passes : (s : EngineState) (txn at : ℕ) → refusal s (event.UndoTo txn at) ≡ None → ActiveIn s txn
back_passes s txn at none = active_passes s txn (none_of_both (active_refusal s txn) _ none).0

-- ---- refusals of a kind that is never due

record Never (Of : Refusal → Type 0) (o : Option Refusal) : Type 0 where
  due : (why : Refusal) → o ≡ Some why → ¬ Of why

-- a test gives only the refusal that it names
test : (Of : Refusal → Type 0) (holds : Bool) (why : Refusal) → ¬ Of why → Never Of (refused_if holds why)
test Of true why other = record { due = λ which is. subst (λ w. ¬ Of w) (same_Some why which is) other }
test Of false why other = record { due = λ which is. absurd (cc) }

both : (Of : Refusal → Type 0) (a b : Option Refusal) → Never Of a → Never Of b → Never Of (or_else a b)
both Of None b first second = second
both Of (Some why) b first second = first

of_active : (Of : Refusal → Type 0) (s : EngineState) (txn : ℕ) → ¬ Of NoTxn → ¬ Of TxnRolling
    → Never Of (active_refusal s txn)
of_active Of s txn none rolling = both Of _ _ (test Of _ NoTxn none) (test Of _ TxnRolling rolling)

-- the log's device fails only later
pub commit_not_unsure : (s : EngineState) (txn lsn : ℕ) → active_refusal s txn ≡ Some (CommitUnsure lsn) → ⊥
commit_not_unsure s txn lsn is =
    (of_active IsByDevice s txn (λ h. h) (λ h. h)).due _ is tt

pub end_not_by_device : (s : EngineState) → refusal s event.CkptEnd ≡ Some LogFault → ⊥
end_not_by_device s is =
    let never : Never IsByDevice (refusal s event.CkptEnd) =
    both _ _ _ (test _ _ NoCkpt (λ h. h)) (both _ _ _ (test _ _ GatherLeft (λ h. h)) (test _ _ LogFull (λ h. h))) in
    never.due _ is tt

-- ---- the log is full

abbrev IsFull : Refusal → Type 0
IsFull LogFull = Unit {0}
IsFull other = ⊥

-- the second of two refusals, where the first never is
second_of_both : (a b : Option Refusal) → Never IsFull a → or_else a b ≡ Some LogFull → (a ≡ None) × (b ≡ Some LogFull)
second_of_both None b never full = (refl, full)
second_of_both (Some why) b never full = absurd (never.due LogFull full tt)

refused_so : (holds : Bool) (why other : Refusal) → refused_if holds why ≡ Some other → (holds ≡ true) × (why ≡ other)
refused_so holds why other some = cond_some holds why other some

-- the first of two refusals, where the second is another one
full_first : (holds : Bool) (b : Option Refusal) → Never IsFull b → or_else (refused_if holds LogFull) b ≡ Some LogFull
    → holds ≡ true
full_first true b never full = refl
full_first false b never full = absurd (never.due LogFull full tt)

never_busy : (o : Option ℕ) → Never IsFull (option_map SlotBusy o)
never_busy None = record { due = λ why is. absurd (cc) }
never_busy (Some txn) = test IsFull true (SlotBusy txn) (λ h. h)

-- the page of a change that is taken back finds no frame
never_framed : (s : EngineState) (o : Option PendingChange)
    → Never IsFull (option_map_or (λ p. frame_refusal s p.page) o None)
never_framed s None = record { due = λ why is. absurd (cc) }
never_framed s (Some p) = test IsFull _ PoolFull (λ h. h)

never_of_vault : (o : Option CopyFault) → Never IsFull (option_map of_vault o)
never_of_vault None = record { due = λ why is. absurd (cc) }
never_of_vault (Some fault.OutOfMemory) = test IsFull true _ (λ h. h)
never_of_vault (Some other) = test IsFull true _ (λ h. h)

-- a Begin is refused for room alone
pub begin_full : (s : EngineState) → refusal s event.Begin ≡ Some LogFull
    → (length (open_in s.log) < MAX_OPEN) × (MAX_RECORDS < length s.log + owed s.log + 3)
begin_full s full =
    let rest = second_of_both _ _ (test _ _ TooManyTxns (λ h. h)) full in
    (leb-false _ _ (not_refused _ _ rest.0), ltb-true _ _ (refused_so _ _ _ rest.1).0)

-- and so is a change
pub change_full : (s : EngineState) (txn page slot : ℕ) (kind : ChangeKind)
    → change_refusal s txn page slot kind ≡ Some LogFull
    → ActiveIn s txn × (holder s.log page slot kind txn ≡ None) × (MAX_RECORDS < length s.log + owed s.log + 2)
change_full s txn page slot kind full =
    let active = second_of_both (active_refusal s txn) _
    (of_active IsFull s txn (λ h. h) (λ h. h)) full in
    let place = second_of_both (page_refusal s page slot) _
    (both _ _ _ (test _ _ PageOut (λ h. h)) (test _ _ SlotOut (λ h. h))) active.1 in
    let free = second_of_both (option_map SlotBusy (holder s.log page slot kind txn)) _ (never_busy _) place.1 in (
      active_passes s txn active.0,
      not_busy _ free.0,
      ltb-true _ _ (full_first (has_no_room s 2) (frame_refusal s page) (test _ _ PoolFull (λ h. h)) free.1),
    )

-- a call that needs no room in the log
abbrev pub NeedsNoRoom : Event → Type 0
NeedsNoRoom event.Begin = ⊥
NeedsNoRoom (event.Set txn page slot number) = ⊥
NeedsNoRoom (event.Add txn page slot amount) = ⊥
NeedsNoRoom event.CkptBegin = ⊥
NeedsNoRoom event.CkptGather = ⊥
NeedsNoRoom event.CkptEnd = ⊥
NeedsNoRoom (event.Extend count) = ⊥
NeedsNoRoom other = Unit {0}

needs_no_room : (s : EngineState) (event : Event) → NeedsNoRoom event → Never IsFull (refusal s event)
needs_no_room s (event.Read page slot) is =
    both _ _ _ (both _ _ _ (test _ _ PageOut (λ h. h)) (test _ _ SlotOut (λ h. h))) (test _ _ PoolFull (λ h. h))
needs_no_room s (event.Commit txn) is = of_active IsFull s txn (λ h. h) (λ h. h)
needs_no_room s (event.Abort txn) is = of_active IsFull s txn (λ h. h) (λ h. h)
needs_no_room s (event.UndoStep txn) is =
    both _ _ _ (both _ _ _ (test _ _ NoTxn (λ h. h)) (test _ _ NotRolling (λ h. h))) (never_framed s _)
needs_no_room s (event.Savepoint txn) is = of_active IsFull s txn (λ h. h) (λ h. h)
needs_no_room s (event.UndoTo txn at) is =
    both _ _ _ (of_active IsFull s txn (λ h. h) (λ h. h))
    (both _ _ _ (test _ _ NoSavepoint (λ h. h)) (never_framed s _))
needs_no_room s event.Force is = record { due = λ why is. absurd (cc) }
needs_no_room s (event.WriteBegin page) is =
    both _ _ _ (test _ _ PageOut (λ h. h)) (both _ _ _ (test _ _ WriteBegun (λ h. h)) (test _ _ NotDirty (λ h. h)))
needs_no_room s (event.WriteEnd page) is = both _ _ _ (test _ _ PageOut (λ h. h)) (test _ _ NoWrite (λ h. h))
needs_no_room s event.CopyFull is = both _ _ _ (test _ _ NoMaster (λ h. h)) (never_of_vault _)
needs_no_room s (event.CopyInc parent) is = never_of_vault _
needs_no_room s (event.Take copy page) is =
    both _ _ _ (never_of_vault _) (both _ _ _ (test _ _ PageOut (λ h. h)) (test _ _ PageDecided (λ h. h)))
needs_no_room s (event.Seal copy) is = never_of_vault _
needs_no_room s (event.DropCopy copy) is = never_of_vault _
needs_no_room s (event.Repair copy page) is =
    both _ _ _ (never_of_vault _) (both _ _ _ (test _ _ PageOut (λ h. h)) (test _ _ WriteBegun (λ h. h)))
needs_no_room s event is = absurd is

pub never_full : (s : EngineState) (event : Event) → NeedsNoRoom event → refusal s event ≡ Some LogFull → ⊥
never_full s event is full = (needs_no_room s event is).due LogFull full tt

-- ---- writes of pages

-- a page may be written: it is one of the volume, none of its writes is in progress, and it is dirty
pub record WriteBegins (s : EngineState) (page : ℕ) : Type 0 where
  pub within : page < volume_pages s
  pub free : image_of s page ≡ None
  pub dirty : is_none (rec_lsn_of s page) ≡ false

-- a write of the page is in progress
pub record WriteEnds (s : EngineState) (page : ℕ) : Type 0 where
  pub within : page < volume_pages s
  pub image : Page
  pub there : image_of s page ≡ Some image

pub none_by_test : {X : Type 0} (o : Option X) → is_some o ≡ false → o ≡ None
none_by_test None no_some = refl
none_by_test (Some x) no_some = absurd (cc)

some_by_test : {X : Type 0} (o : Option X) → is_none o ≡ false → (x : X) × (o ≡ Some x)
some_by_test None no_none = absurd (cc)
some_by_test (Some x) no_none = (x, refl)

pub write_begin_passes : (s : EngineState) (page : ℕ) → refusal s (event.WriteBegin page) ≡ None → WriteBegins s page
write_begin_passes s page none =
    let place = none_of_both _ _ none in
    let rest = none_of_both _ _ place.1 in
    record {
      within = leb-false _ _ (not_refused _ _ place.0);
      free = none_by_test (image_of s page) (not_refused _ _ rest.0);
      dirty = not_refused _ _ rest.1;
    }

pub write_end_passes : (s : EngineState) (page : ℕ) → refusal s (event.WriteEnd page) ≡ None → WriteEnds s page
write_end_passes s page none =
    let place = none_of_both _ _ none in
    let some = some_by_test (image_of s page) (not_refused _ _ place.1) in
    record { within = leb-false _ _ (not_refused _ _ place.0); image = some.0; there = some.1 }

-- ---- checkpoints

-- a checkpoint may begin
pub record CkptBegins (s : EngineState) : Type 0 where
  pub idle : open_checkpoint s.log ≡ None
  pub room : HasRoomFor s 1

-- the gather of the open checkpoint may go on by a step
pub record GatherGoesOn (s : EngineState) : Type 0 where
  pub ckpt : Checkpoint
  pub still_open : open_checkpoint s.log ≡ Some ckpt
  pub room : (r : Record) → gathered_record s ≡ Some r → HasRoomFor s 1

-- the open checkpoint may end
pub record CkptEnds (s : EngineState) : Type 0 where
  pub ckpt : Checkpoint
  pub still_open : open_checkpoint s.log ≡ Some ckpt
  pub done : s.left ≡ none_left
  pub room : HasRoomFor s 1

-- a test that some value passes
some_passes : {X : Type 0} (o : Option X) (x : X) (other : Bool) → o ≡ Some x → (is_some o && other) ≡ other
some_passes o x other is = ap (λ p. is_some p && other) is

none_left_if_done : (left : Left) → is_done left ≡ true → left ≡ none_left
none_left_if_done none_left done = refl
none_left_if_done pages_left done = cc
none_left_if_done txns_left done = cc

pub ckpt_begin_passes : (s : EngineState) → refusal s event.CkptBegin ≡ None → CkptBegins s
ckpt_begin_passes s none =
    let both = none_of_both _ _ none in
    record { idle = none_by_test (open_checkpoint s.log) (not_refused _ _ both.0); room = has_room s 1 _ both.1 }

pub gather_passes : (s : EngineState) → refusal s event.CkptGather ≡ None → GatherGoesOn s
gather_passes s none =
    let both = none_of_both _ _ none in
    let some = some_by_test (open_checkpoint s.log) (not_refused _ _ both.0) in
    record {
      ckpt = some.0;
      still_open = some.1;
      room = λ r made.
          ltb-false _ _ (sym (some_passes (gathered_record s) r (has_no_room s 1) made) ∙ not_refused _ _ both.1);
    }

pub ckpt_end_passes : (s : EngineState) → refusal s event.CkptEnd ≡ None → CkptEnds s
ckpt_end_passes s none =
    let both = none_of_both _ _ none in
    let some = some_by_test (open_checkpoint s.log) (not_refused _ _ both.0) in
    let rest = none_of_both _ _ both.1 in
    record {
      ckpt = some.0;
      still_open = some.1;
      done = none_left_if_done s.left (not-false _ (not_refused _ _ rest.0));
      room = has_room s 1 _ rest.1;
    }

-- they are refused for room

both_hold : (a b : Bool) → (a && b) ≡ true → (a ≡ true) × (b ≡ true)
both_hold true b is = (refl, is)
both_hold false b is = cc

some_if : {X : Type 0} (o : Option X) → is_some o ≡ true → (x : X) × (o ≡ Some x)
some_if None is = cc
some_if (Some x) is = (x, refl)

pub ckpt_begin_full : (s : EngineState) → refusal s event.CkptBegin ≡ Some LogFull
    → (open_checkpoint s.log ≡ None) × (MAX_RECORDS < length s.log + owed s.log + 1)
ckpt_begin_full s full =
    let both = second_of_both _ _ (test _ _ CkptOpen (λ h. h)) full in
    (none_by_test (open_checkpoint s.log) (not_refused _ _ both.0), ltb-true _ _ (refused_so _ _ _ both.1).0)

-- a step of a gather that would append a record, and has no room for it
pub record GatherIsFull (s : EngineState) : Type 0 where
  pub ckpt : Checkpoint
  pub still_open : open_checkpoint s.log ≡ Some ckpt
  pub r : Record
  pub made : gathered_record s ≡ Some r
  pub past : MAX_RECORDS < length s.log + owed s.log + 1

pub gather_full : (s : EngineState) → refusal s event.CkptGather ≡ Some LogFull → GatherIsFull s
gather_full s full =
    let both = second_of_both (ckpt_refusal s) _ (test _ _ NoCkpt (λ h. h)) full in
    let some = some_by_test (open_checkpoint s.log) (not_refused _ _ both.0) in
    let tests = both_hold _ _ (refused_so _ _ _ both.1).0 in
    let appends = some_if (gathered_record s) tests.0 in
    record {
      ckpt = some.0;
      still_open = some.1;
      r = appends.0;
      made = appends.1;
      past = ltb-true _ _ tests.1;
    }

-- a checkpoint that could end, and has no room for its EndChkpt
pub record EndIsFull (s : EngineState) : Type 0 where
  pub ckpt : Checkpoint
  pub still_open : open_checkpoint s.log ≡ Some ckpt
  pub done : s.left ≡ none_left
  pub past : MAX_RECORDS < length s.log + owed s.log + 1

pub ckpt_end_full : (s : EngineState) → refusal s event.CkptEnd ≡ Some LogFull → EndIsFull s
ckpt_end_full s full =
    let both = second_of_both (ckpt_refusal s) _ (test _ _ NoCkpt (λ h. h)) full in
    let some = some_by_test (open_checkpoint s.log) (not_refused _ _ both.0) in
    let rest = second_of_both _ _ (test _ _ GatherLeft (λ h. h)) both.1 in
    record {
      ckpt = some.0;
      still_open = some.1;
      done = none_left_if_done s.left (not-false _ (not_refused _ _ rest.0));
      past = ltb-true _ _ (refused_so _ _ _ rest.1).0;
    }

-- ---- growth

-- the volume may have so many pages, which are more than it has
pub record Extends (s : EngineState) (count : ℕ) : Type 0 where
  pub more : volume_pages s < count
  pub few : count ≤ MAX_PAGES
  pub room : HasRoomFor s 1

neither_holds : (a b : Bool) → (a || b) ≡ false → (a ≡ false) × (b ≡ false)
neither_holds true b is = cc
neither_holds false b is = (refl, is)

pub extend_passes : (s : EngineState) (count : ℕ) → refusal s (event.Extend count) ≡ None → Extends s count
extend_passes s count none =
    let both = none_of_both _ _ none in
    let tests = neither_holds _ _ (not_refused _ _ both.0) in
    record {
      more = leb-false _ _ tests.0;
      few = ltb-false _ _ tests.1;
      room = has_room s 1 _ both.1;
    }

pub extend_full : (s : EngineState) (count : ℕ) → refusal s (event.Extend count) ≡ Some LogFull
    → MAX_RECORDS < length s.log + owed s.log + 1
extend_full s count full =
    let both = second_of_both _ _ (test _ _ (NotLarger (volume_pages s)) (λ h. h)) full in
    ltb-true _ _ (refused_so _ _ _ both.1).0
