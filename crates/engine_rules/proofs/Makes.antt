-- The record that an accepted call appends, and what the call has passed.
use Rattle.std.proofs.Common.{◌≡◌, ℕ, ◌^◌, ◌<◌, Bool, true, false, cond, length, refl, sym, ap}
use Rattle.std.proofs.Common.{subst, ◌∙◌}
use Rattle.std.specs.Prelude.{Option, Some, None, nat_lt}
use Rattle.std.specs.Option.{option_and_then, option_map, option_map_or}
use Rattle.std.proofs.lemmas.Option.{same_Some}
use Rattle.page_core.specs.declared.change.Change.TheVariants.{Set, Add}
use Rattle.page_core.specs.declared.change.ChangeKind.TheVariants as kind
use Rattle.log_records.specs.declared.dirty_page.DirtyPages.{DirtyPages}
use Rattle.log_records.specs.declared.record.Record.{Record}
use Rattle.log_records.specs.declared.record.Record.TheVariants as log
use Rattle.log_records.specs.PageCount.{given_count}
use Rattle.log_rules.specs.declared.pending_change.PendingChange.{PendingChange}
use Rattle.log_rules.specs.Checkpoint.{Checkpoint, open_checkpoint}
use Rattle.log_rules.specs.Linked.{number_in}
use Rattle.log_rules.specs.Savepoints.{savepoint}
use Rattle.log_rules.specs.Transactions.{is_open, last_of, pending}
use Rattle.engine_calls.specs.declared.event.Event.{Event}
use Rattle.engine_calls.specs.declared.event.Event.TheVariants as event
use Rattle.engine_calls.specs.EventFits.{EventFits}
use Rattle.engine_rules.specs.Call.{record_for}
use Rattle.engine_rules.specs.EngineState.{EngineState, abort_record, begin_ckpt_record}
use Rattle.engine_rules.specs.EngineState.{commit_record, comp_record, end, end_ckpt_record}
use Rattle.engine_rules.specs.EngineState.{end_record, extend_record, next_txn, taken_back}
use Rattle.engine_rules.specs.EngineState.{update_record}
use Rattle.engine_rules.specs.Gather.{Left, none_left, pages_left, txns_left}
use Rattle.engine_rules.specs.Refusal.{refusal}
use Rattle.engine_rules.proofs.Gathers.{FindsPages, FindsTxn, PassesPages, PassesTxns, TakesPages}
use Rattle.engine_rules.proofs.Gathers.{TakesTxn, WasDone, gather_case, pages_record, passes_pages}
use Rattle.engine_rules.proofs.Gathers.{passes_txns, takes_pages, takes_txn, txn_entry, was_done}
use Rattle.engine_rules.proofs.Refusals.{ActiveIn, BeginPasses, ChangePasses, CkptBegins, Extends}
use Rattle.engine_rules.proofs.Refusals.{HasRoomFor, RollsIn, active_passes, back_passes}
use Rattle.engine_rules.proofs.Refusals.{begin_passes, change_passes, ckpt_begin_passes}
use Rattle.engine_rules.proofs.Refusals.{ckpt_end_passes, extend_passes, gather_passes, undo_passes}

-- ---- kinds of events

-- the volume keeps its page count
abbrev pub IsNoGrowth : Event → Type 0
IsNoGrowth (event.Extend count) = ⊥
IsNoGrowth other = Unit {0}

-- it is none on checkpoints
abbrev pub IsBeside : Event → Type 0
IsBeside event.CkptBegin = ⊥
IsBeside event.CkptGather = ⊥
IsBeside event.CkptEnd = ⊥
IsBeside other = Unit {0}

-- the volume keeps its page count, and no checkpoint begins
abbrev pub BeginsNoCkpt : Event → Type 0
BeginsNoCkpt event.CkptBegin = ⊥
BeginsNoCkpt (event.Extend count) = ⊥
BeginsNoCkpt other = Unit {0}

-- ---- the records

pub data Makes (s : EngineState) (event : Event) : Record → Type 0 where
  MakesBegin : BeginPasses s → Makes s event (log.Begin (end s) (next_txn s))
  MakesSet : (txn page slot number : ℕ) → ChangePasses s txn page slot kind.Set → (EventFits event → number < 2 ^ 64)
      → Makes s event (update_record s txn page slot (Set (number_in s.log page slot) number))
  MakesAdd : (txn page slot amount : ℕ) → ChangePasses s txn page slot kind.Add → (EventFits event → amount < 2 ^ 64)
      → Makes s event (update_record s txn page slot (Add amount))
  MakesCommit : (txn : ℕ) → ActiveIn s txn → Makes s event (commit_record s txn)
  MakesAbort : (txn : ℕ) → ActiveIn s txn → Makes s event (abort_record s txn)
  MakesComp : (txn : ℕ) (p : PendingChange) → is_open s.log txn ≡ true → last_of (pending s.log txn) ≡ Some p
      → Makes s event (comp_record s txn p)
  MakesEnd : (txn : ℕ) → RollsIn s txn → last_of (pending s.log txn) ≡ None → Makes s event (end_record s txn)
  MakesExtend : (count : ℕ) → ¬ IsNoGrowth event → ¬ BeginsNoCkpt event → Extends s count
      → Makes s event (extend_record s count)
  MakesBeginChkpt : ¬ IsBeside event → ¬ BeginsNoCkpt event → CkptBegins s → Makes s event (begin_ckpt_record s)
  MakesPages : (c : Checkpoint) (pages : DirtyPages) → ¬ IsBeside event → open_checkpoint s.log ≡ Some c
      → FindsPages s c (Some pages) → HasRoomFor s 1 → Makes s event (pages_record s c pages)
  MakesTxn : (c : Checkpoint) (t : ℕ) → ¬ IsBeside event → open_checkpoint s.log ≡ Some c
      → FindsTxn s c (Some t) → HasRoomFor s 1 → Makes s event (txn_entry s c t)
  MakesEndChkpt : (c : Checkpoint) → ¬ IsBeside event → open_checkpoint s.log ≡ Some c → s.left ≡ none_left
      → HasRoomFor s 1 → Makes s event (end_ckpt_record s c)

-- what is left of the gather behind it
abbrev pub left_with : Left → Record → Left
left_with left (log.BeginChkpt lsn) = pages_left
left_with left (log.ChkptPages lsn begin pages) = pages_left
left_with left (log.ChkptTxns lsn begin txn state last undo_next) = txns_left
left_with left (log.EndChkpt lsn begin redo) = pages_left
left_with left other = left

-- ---- an accepted event that appends a record makes one of them

pub none_is_not_some : {X : Type 0} {x : X} → None ≡ Some x → ⊥
none_is_not_some same = cc

-- a step of a gather appends no record, or one of these
pub gather_record_has : (P : Record → Type 0) (s : EngineState) (r : Record) → refusal s event.CkptGather ≡ None
    → record_for s event.CkptGather ≡ Some r
    → ((c : Checkpoint) (pages : DirtyPages) → open_checkpoint s.log ≡ Some c → FindsPages s c (Some pages)
    → P (pages_record s c pages))
    → ((c : Checkpoint) (t : ℕ) → open_checkpoint s.log ≡ Some c → FindsTxn s c (Some t) → P (txn_entry s c t)) → P r
gather_record_has P s r none made pages txn =
    let passes = gather_passes s none in
    let c = passes.ckpt in
    let is = passes.still_open in
    elim (gather_case s c) [
      | TakesPages found finds ↦
          subst P (same_Some _ _ (sym (takes_pages s c found is finds).made ∙ made)) (pages c found is finds)
      | PassesPages finds ↦ absurd (none_is_not_some (sym (passes_pages s c is finds).made ∙ made))
      | TakesTxn t finds ↦
          subst P (same_Some _ _ (sym (takes_txn s c t is finds).made ∙ made)) (txn c t is finds)
      | PassesTxns finds ↦ absurd (none_is_not_some (sym (passes_txns s c is finds).made ∙ made))
      | WasDone left ↦ absurd (none_is_not_some (sym (was_done s c is left).made ∙ made))
    ]

as_made : (s : EngineState) (event : Event) (q r : Record) → Some q ≡ Some r → Makes s event q → Makes s event r
as_made s event q r same makes = subst (Makes s event) (same_Some q r same) makes

-- what a step back takes back is the last pending change
pub taken_is_last : (s : EngineState) (txn at : ℕ) (p : PendingChange) → taken_back s txn at ≡ Some p
    → last_of (pending s.log txn) ≡ Some p
taken_is_last s txn at p is = by (savepoint s.log txn at) is
  where
    by_test : (b : Bool) → cond b (last_of (pending s.log txn)) None ≡ Some p → last_of (pending s.log txn) ≡ Some p
    by_test true some = some
    by_test false some = cc

    by : (o : Option ℕ)
        → option_and_then
        (λ left. cond (nat_lt left (length (pending s.log txn))) (last_of (pending s.log txn)) None) o ≡ Some p
        → last_of (pending s.log txn) ≡ Some p
    by None some = cc
    by (Some left) some = by_test (nat_lt left (length (pending s.log txn))) some

undo_makes : (s : EngineState) (txn : ℕ) (r : Record) (o : Option PendingChange) → last_of (pending s.log txn) ≡ o
    → RollsIn s txn → Some (option_map_or (comp_record s txn) o (end_record s txn)) ≡ Some r
    → Makes s (event.UndoStep txn) r
undo_makes s txn r None last rolls made = as_made s _ _ r made (MakesEnd txn rolls last)
undo_makes s txn r (Some p) last rolls made = as_made s _ _ r made (MakesComp txn p rolls.still_open last)

back_makes : (s : EngineState) (txn at : ℕ) (r : Record) (o : Option PendingChange) → taken_back s txn at ≡ o
    → ActiveIn s txn → option_map (comp_record s txn) o ≡ Some r → Makes s (event.UndoTo txn at) r
back_makes s txn at r None taken active made = absurd (none_is_not_some made)
back_makes s txn at r (Some p) taken active made =
    as_made s _ _ r made (MakesComp txn p active.still_open (taken_is_last s txn at p taken))

pub makes : (s : EngineState) (event : Event) (r : Record) → refusal s event ≡ None → record_for s event ≡ Some r
    → Makes s event r
makes s event.Begin r none made = as_made s _ _ r made (MakesBegin (begin_passes s none))
makes s (event.Set txn page slot number) r none made =
    as_made s _ _ r made (MakesSet txn page slot number (change_passes s txn page slot kind.Set none) (λ fits. fits))
makes s (event.Add txn page slot amount) r none made =
    as_made s _ _ r made (MakesAdd txn page slot amount (change_passes s txn page slot kind.Add none) (λ fits. fits))
makes s (event.Commit txn) r none made = as_made s _ _ r made (MakesCommit txn (active_passes s txn none))
makes s (event.Abort txn) r none made = as_made s _ _ r made (MakesAbort txn (active_passes s txn none))
makes s (event.UndoStep txn) r none made = undo_makes s txn r _ refl (undo_passes s txn none) made
makes s (event.UndoTo txn at) r none made = back_makes s txn at r _ refl (back_passes s txn at none) made
makes s event.CkptBegin r none made =
    as_made s _ _ r made (MakesBeginChkpt (λ no_ckpt. no_ckpt) (λ no_ckpt. no_ckpt) (ckpt_begin_passes s none))
makes s event.CkptGather r none made =
    let room = (gather_passes s none).room r made in
    gather_record_has (Makes s event.CkptGather) s r none made
    (λ c pages is finds. MakesPages c pages (λ no_ckpt. no_ckpt) is finds room)
    (λ c t is finds. MakesTxn c t (λ no_ckpt. no_ckpt) is finds room)
makes s event.CkptEnd r none made =
    let passes = ckpt_end_passes s none in
    as_made s _ _ r (sym (ap (option_map (end_ckpt_record s)) passes.still_open) ∙ made)
    (MakesEndChkpt passes.ckpt (λ no_ckpt. no_ckpt) passes.still_open passes.done passes.room)
makes s (event.Extend count) r none made =
    as_made s _ _ r made (MakesExtend count (λ stays. stays) (λ stays. stays) (extend_passes s count none))
makes s other r none made = absurd (none_is_not_some made)

-- ---- what they are

-- no such record gives the volume a page count
pub gives_none : (s : EngineState) (event : Event) (r : Record) → IsNoGrowth event → Makes s event r
    → given_count r ≡ None
gives_none s event r stays (MakesExtend count grows begins passes) = absurd (grows stays)
gives_none s event r stays other = refl

-- and the gather is left as it is
pub left_stays : (s : EngineState) (event : Event) (r : Record) (left : Left) → IsBeside event → Makes s event r
    → left_with left r ≡ left
left_stays s event r left beside (MakesBeginChkpt ckpt begins passes) = absurd (ckpt beside)
left_stays s event r left beside (MakesPages c pages ckpt is finds room) = absurd (ckpt beside)
left_stays s event r left beside (MakesTxn c t ckpt is finds room) = absurd (ckpt beside)
left_stays s event r left beside (MakesEndChkpt c ckpt is done room) = absurd (ckpt beside)
left_stays s event r left beside other = refl
