-- The moves of an engine: each step is at most one record at the end of the log, and a few moves behind it.
-- What holds after every step is proved by the moves, so only here, of all lemmas on steps, does each event have its
-- case.
use Rattle.std.proofs.Common.{◌≡◌, ℕ, ◌<◌, ◌≤◌, ◌⊎◌, List, cond, set, refl, sym, ap, subst, ◌∙◌}
use Rattle.std.proofs.Common.{arith, inl, inr}
use Rattle.std.specs.Prelude.{Option, Some, None, IfSome, IsSome, IsSomeAnd, Result, Ok, Err}
use Rattle.std.specs.Option.{option_map, option_map_or}
use Rattle.page_core.specs.declared.page.Page.{Page}
use Rattle.log_records.specs.declared.record.Record.{Record}
use Rattle.log_records.specs.Log.{lsn_of}
use Rattle.log_records.specs.Record.{change_of}
use Rattle.log_rules.specs.declared.pending_change.PendingChange.{PendingChange}
use Rattle.log_rules.specs.Transactions.{last_of, pending}
use Rattle.log_rules.specs.Work.{UndoCall, UndoToCall, call_of}
use Rattle.log_store.specs.WrittenLog.{end_up_to}
use Rattle.copy_vault.specs.Vault.{CopyState}
use Rattle.copy_vault.specs.declared.copy_id.CopyKind.TheVariants.{Full, Inc}
use Rattle.copy_coverage.specs.Copied.{AreCopied, copy_in}
use Rattle.copy_coverage.proofs.Public.{copied_dropped, copied_sealed}
use Rattle.engine_calls.specs.declared.event.Answer.{Answer}
use Rattle.engine_calls.specs.declared.event.Answer.TheVariants as answer
use Rattle.engine_calls.specs.declared.event.Event.{Event}
use Rattle.engine_calls.specs.declared.event.Event.TheVariants as event
use Rattle.engine_calls.specs.declared.refusal.Refusal.{Refusal}
use Rattle.engine_calls.specs.declared.refusal.Refusal.TheVariants.{CommitUnsure, LogFault}
use Rattle.engine_calls.specs.declared.refusal.Refusal.TheVariants.{OutOfMemory, StoreFault}
use Rattle.engine_rules.specs.Accepted.{shown_call}
use Rattle.engine_rules.specs.EngineState.{EngineState, IsFit, Outcome, with_appended, commit_record}
use Rattle.engine_rules.specs.EngineState.{begun_write, ckpt_end_effect, closed, effect, end}
use Rattle.engine_rules.specs.EngineState.{end_ckpt_record, end_record, ended_write, extend_record}
use Rattle.engine_rules.specs.EngineState.{forced_through, forced_to, gathering, image_of, log_of}
use Rattle.engine_rules.specs.EngineState.{page_needed, page_now, taken_back, undid, volume_pages}
use Rattle.engine_rules.specs.EngineState.{with_copies, with_page, with_stored}
use Rattle.engine_rules.specs.Gather.{Left, none_left, txns_left}
use Rattle.engine_rules.specs.Refusal.{refusal}
use Rattle.engine_rules.specs.Step.{Fails, ForcedPart, MayBeStored, Step}
use Rattle.engine_rules.proofs.CopySteps.{has_parent, opens, takes}
use Rattle.engine_rules.proofs.Forces.{EndsAtRecord, Forces, all_forces, part_forces}
use Rattle.engine_rules.proofs.Forces.{through_forces, up_to_is_record}
use Rattle.engine_rules.proofs.Gathers.{AreGathered, PassesPages, PassesTxns, TakesPages, TakesTxn}
use Rattle.engine_rules.proofs.Gathers.{WasDone, ckpt_end_is, closed_part, gather_case}
use Rattle.engine_rules.proofs.Gathers.{passes_pages, passes_txns, takes_pages, takes_txn, was_done}
use Rattle.engine_rules.proofs.GatherSteps.{pages_passed, txns_passed}
use Rattle.engine_rules.proofs.Makes.{BeginsNoCkpt, IsBeside, IsNoGrowth, Makes, MakesComp}
use Rattle.engine_rules.proofs.Makes.{MakesEnd, MakesEndChkpt, left_with, makes, taken_is_last}
use Rattle.engine_rules.proofs.Refusals.{CkptEnds, WriteEnds, back_passes, ckpt_end_passes}
use Rattle.engine_rules.proofs.Refusals.{commit_not_unsure}
use Rattle.engine_rules.proofs.CopyPasses.{drop_passes, full_is_few, full_passes}
use Rattle.engine_rules.proofs.Refusals.{gather_passes}
use Rattle.engine_rules.proofs.CopyPasses.{inc_is_few, inc_passes, repair_passes}
use Rattle.engine_rules.proofs.Refusals.{undo_passes, write_begin_passes}
use Rattle.engine_rules.proofs.CopyPasses.{seal_passes, take_passes}
use Rattle.engine_rules.proofs.Refusals.{write_end_passes}

-- ---- what replies leave as it is

-- the last writes of pages
abbrev pub LeavesWritten : Event → Result Answer Refusal → Type 0
LeavesWritten (event.WriteEnd page) (Ok answer) = ⊥
LeavesWritten (event.Repair copy page) (Ok answer) = ⊥
LeavesWritten (event.Extend count) (Ok answer) = ⊥
LeavesWritten event reply = Unit {0}

-- the master
abbrev pub LeavesMaster : Event → Result Answer Refusal → Type 0
LeavesMaster event.CkptEnd (Ok answer) = ⊥
LeavesMaster event reply = Unit {0}

-- the copies
abbrev pub LeavesCopies : Event → Result Answer Refusal → Type 0
LeavesCopies event.CopyFull (Ok answer) = ⊥
LeavesCopies (event.CopyInc parent) (Ok answer) = ⊥
LeavesCopies (event.Take copy page) (Ok answer) = ⊥
LeavesCopies (event.Seal copy) (Ok answer) = ⊥
LeavesCopies (event.DropCopy copy) (Ok answer) = ⊥
LeavesCopies event reply = Unit {0}

-- ---- the moves

-- with these pages in memory
abbrev pub holding : EngineState → List Page → EngineState
holding s pages = record s { resident = pages }

-- the pages in memory once the page is there that the call needs, where it needs one
pub data Start (old : EngineState) (event : Event) : List Page → Type 0 where
  Here : Start old event old.resident
  Fetched : (p : ℕ) → refusal old event ≡ None → page_needed old event ≡ Some p
      → Start old event (with_page old p).resident

-- a page may be stored as it is now: no write of it is in progress, and its changes are forced
pub record IsIdle (s : EngineState) (page : ℕ) : Type 0 where
  pub within : page < volume_pages s
  pub idle : image_of s page ≡ None
  pub forced : end_up_to (log_of s) (page_now s page).lsn ≤ s.forced_end

-- which page is stored, and what stands of its last write and of its image that is being written: the
-- write ends, or goes on; or it is the page as it is now, which may count as its last write
pub data Storing (s : EngineState) (event : Event) (reply : Result Answer Refusal) (page : ℕ)
    : Page → List ℕ → List (Option Page) → Type 0 where
  Ends : ¬ LeavesWritten event reply → (ends : WriteEnds s page)
      → Storing s event reply page ends.image (set s.written page ends.image.lsn) (set s.writing page None)
  GoesOn : (ends : WriteEnds s page) → Storing s event reply page ends.image s.written s.writing
  Repairs : ¬ LeavesWritten event reply → IsIdle s page
      → Storing s event reply page (page_now s page) (set s.written page (page_now s page).lsn) s.writing
  RepairsHalf : IsIdle s page → Storing s event reply page (page_now s page) s.written s.writing

pub data Move (event : Event) (reply : Result Answer Refusal) : EngineState → EngineState → Type 0 where
  -- the log is forced up to there
  Forced : {s : EngineState} (lsn : ℕ) → (EndsAtRecord s → Forces s (forced_to s lsn))
      → Move event reply s (forced_to s lsn)
  -- a write of a page begins
  Begun : {s : EngineState} (page : ℕ) → page < volume_pages s
      → end_up_to (log_of s) (page_now s page).lsn ≤ s.forced_end
      → Move event reply s (begun_write s page (page_now s page))
  -- a page is stored
  Stored : {s : EngineState} (page : ℕ) (image : Page) (written : List ℕ) (writing : List (Option Page))
      → Storing s event reply page image written writing
      → Move event reply s
      (record s { stored = set s.stored page image; written = written; writing = writing })
  -- the copies change
  Copied : {s : EngineState} (copies : List CopyState) → ¬ LeavesCopies event reply
      → (IsFit s → AreCopied (log_of s) s.forced_end s.stored copies × IsSome s.master)
      → Move event reply s (with_copies s copies)
  -- less is left of the gather
  Gathered : {s : EngineState} (left : Left) → ¬ IsBeside event
      → (IsFit s → AreGathered (log_of s) s.stored left) → Move event reply s (gathering s left)

-- one after another
pub data Rest (event : Event) (reply : Result Answer Refusal) : EngineState → EngineState → Type 0 where
  Done : {s : EngineState} → Rest event reply s s
  Then : {s m t : EngineState} → Move event reply s m → Rest event reply m t → Rest event reply s t

pub data Moves (old : EngineState) (call : Event) (reply : Result Answer Refusal) : EngineState → Type 0 where
  -- the log stays
  Keeps : {pages : List Page} {new : EngineState} → Start old call pages → shown_call call reply ≡ None
      → Rest call reply (holding old pages) new → Moves old call reply new
  -- a record is appended
  Adds : {pages : List Page} {new : EngineState} (r : Record) → Start old call pages → Makes old call r
      → IsNoGrowth call → IfSome (change_of r) (λ c. pages ≡ (with_page old c.page).resident)
      → shown_call call reply ≡ call_of old.log r
      → Rest call reply (gathering (with_appended (holding old pages) r) (left_with old.left r)) new
      → Moves old call reply new
  -- the open checkpoint is complete, and becomes the master
  Completes : (passes : CkptEnds old) → ¬ IsBeside call → ¬ LeavesMaster call reply
      → IsNoGrowth call → shown_call call reply ≡ None
      → Moves old call reply (ckpt_end_effect old passes.ckpt).state
  -- the volume grows
  Extends : (count : ℕ) → refusal old (event.Extend count) ≡ None → ¬ IsNoGrowth call → ¬ BeginsNoCkpt call
      → ¬ LeavesWritten call reply
      → shown_call call reply ≡ call_of old.log (extend_record old count)
      → Moves old call reply (effect old (event.Extend count)).state

-- ---- each answer

one : {event : Event} {reply : Result Answer Refusal} {s t : EngineState} → Move event reply s t → Rest event reply s t
one move = Then move Done

module _ (old : EngineState) (event : Event) (reply : Result Answer Refusal) where
  -- the log is forced up to the last change of a page
  through : (page : ℕ) → Move event reply old (forced_through old (page_now old page).lsn)
  through page = Forced _ (through_forces old (page_now old page).lsn)

  -- a part of the log is forced
  part : (new : EngineState) (target : ℕ) → target ≤ end old → ForcedPart target old new → Rest event reply old new
  part new target within forced =
      let is = forced.reached.2 in
      subst (Rest event reply old) (sym is)
      (one (Forced (lsn_of forced.reached.0)
      (λ ends. subst (Forces old) is (part_forces old new target within forced))))

  same : (new : EngineState) → shown_call event reply ≡ None → new ≡ old → Moves old event reply new
  same new unseen is = subst (Moves old event reply) (sym is) (Keeps Here unseen Done)

undo_moves : (old : EngineState) (txn : ℕ) (reply : Answer) (o : Option PendingChange)
    → last_of (pending old.log txn) ≡ o → refusal old (event.UndoStep txn) ≡ None
    → Moves old (event.UndoStep txn) (Ok reply) (option_map_or (undid old txn) o
    (record { answer = answer.Ended (end old); state = with_appended old (end_record old txn) })).state
undo_moves old txn reply None last none =
    Adds _ Here (MakesEnd txn (undo_passes old txn none) last) tt tt refl Done
undo_moves old txn reply (Some p) last none =
    Adds _ (Fetched p.page none (ap (option_map (λ q. q.page)) last))
    (MakesComp txn p (undo_passes old txn none).still_open last) tt refl
    (ap (λ b. Some (cond b (UndoCall txn) (UndoToCall txn))) (sym (undo_passes old txn none).rolling)) Done

back_moves : (old : EngineState) (txn at : ℕ) (reply : Answer) (o : Option PendingChange)
    → taken_back old txn at ≡ o → refusal old (event.UndoTo txn at) ≡ None
    → reply ≡ (option_map_or (undid old txn) o (record { answer = answer.Reached; state = old })).answer
    → Moves old (event.UndoTo txn at) (Ok reply)
    (option_map_or (undid old txn) o (record { answer = answer.Reached; state = old })).state
back_moves old txn at reply None taken none given =
    Keeps Here (ap (λ (a : Answer). shown_call (event.UndoTo txn at) (Ok a)) given) Done
back_moves old txn at reply (Some p) taken none given =
    Adds _ (Fetched p.page none (ap (option_map (λ q. q.page)) taken))
    (MakesComp txn p (back_passes old txn at none).still_open (taken_is_last old txn at p taken)) tt refl
    (ap (λ (a : Answer). shown_call (event.UndoTo txn at) (Ok a)) given
    ∙ ap (λ b. Some (cond b (UndoCall txn) (UndoToCall txn))) (sym (back_passes old txn at none).active)) Done

gather_moves : (old : EngineState) (answer : Answer) → refusal old event.CkptGather ≡ None
    → Moves old event.CkptGather (Ok answer) (effect old event.CkptGather).state
gather_moves old answer none =
    let passes = gather_passes old none in
    let c = passes.ckpt in
    let is = passes.still_open in
    let moved : (o : Outcome) → effect old event.CkptGather ≡ o → Moves old event.CkptGather (Ok answer) o.state
    → Moves old event.CkptGather (Ok answer) (effect old event.CkptGather).state =
    λ o outcome. subst (λ (x : Outcome). Moves old event.CkptGather (Ok answer) x.state) (sym outcome) in
    elim (gather_case old c) [
      | TakesPages pages finds ↦
          let does = takes_pages old c pages is finds in
          moved _ does.outcome (Adds _ Here (makes old event.CkptGather _ none does.made) tt tt refl Done)
      | PassesPages finds ↦
          moved _ (passes_pages old c is finds).outcome
          (Keeps Here refl (one (Gathered txns_left (λ b. b) (λ fit. pages_passed old c fit is finds))))
      | TakesTxn t finds ↦
          let does = takes_txn old c t is finds in
          moved _ does.outcome (Adds _ Here (makes old event.CkptGather _ none does.made) tt tt refl Done)
      | PassesTxns finds ↦
          moved _ (passes_txns old c is finds).outcome
          (Keeps Here refl (one (Gathered none_left (λ b. b) (λ fit. txns_passed old c fit is finds))))
      | WasDone left ↦
          moved _ (was_done old c is left).outcome
          (Keeps Here refl (one (Gathered none_left (λ b. b)
          (λ fit. subst (AreGathered (log_of old) old.stored) left fit.gathered))))
    ]

-- a page that may be repaired, once the log is forced up to its last change
idle_then : (old : EngineState) (copy page : ℕ) → refusal old (event.Repair copy page) ≡ None
    → IsIdle (forced_through old (page_now old page).lsn) page
idle_then old copy page none =
    let passes = repair_passes old copy page none in
    record { within = passes.within; idle = passes.idle; forced = omega arith }

answered : (old : EngineState) (event : Event) (answer : Answer) → refusal old event ≡ None
    → answer ≡ (effect old event).answer → Moves old event (Ok answer) (effect old event).state
answered old event.Begin answer none given =
    Adds _ Here (makes old event.Begin _ none refl) tt tt
    (ap (λ (a : Answer). shown_call event.Begin (Ok a)) given) Done
answered old (event.Set txn page slot number) answer none given =
    Adds _ (Fetched page none refl) (makes old (event.Set txn page slot number) _ none refl) tt refl refl Done
answered old (event.Add txn page slot amount) answer none given =
    Adds _ (Fetched page none refl) (makes old (event.Add txn page slot amount) _ none refl) tt refl refl Done
answered old (event.Read page slot) answer none given = Keeps (Fetched page none refl) refl Done
answered old (event.Commit txn) answer none given =
    Adds _ Here (makes old (event.Commit txn) _ none refl) tt tt refl
    (one (Forced _ (all_forces (with_appended old (commit_record old txn)))))
answered old (event.Abort txn) answer none given =
    Adds _ Here (makes old (event.Abort txn) _ none refl) tt tt refl Done
answered old (event.UndoStep txn) answer none given = undo_moves old txn answer _ refl none
answered old (event.Savepoint txn) answer none given = Keeps Here refl Done
answered old (event.UndoTo txn at) answer none given = back_moves old txn at answer _ refl none given
answered old event.Force answer none given = Keeps Here refl (one (Forced _ (all_forces old)))
answered old (event.WriteBegin page) answer none given =
    Keeps Here refl (Then (through old _ _ page)
    (one (Begun page (write_begin_passes old page none).within (omega arith))))
answered old (event.WriteEnd page) reply none given =
    let ends = write_end_passes old page none in
    let done : (effect old (event.WriteEnd page)).state ≡ ended_write old page ends.image = rw ends.there refl in
    subst (Moves old (event.WriteEnd page) (Ok reply)) (sym done)
    (Keeps Here refl (one (Stored page ends.image _ _ (Ends (λ leaves. leaves) ends))))
answered old event.CkptBegin answer none given =
    Adds _ Here (makes old event.CkptBegin _ none refl) tt tt refl Done
answered old event.CkptGather answer none given = gather_moves old answer none
answered old event.CkptEnd answer none given =
    let passes = ckpt_end_passes old none in
    subst (Moves old event.CkptEnd (Ok answer))
    (sym (ap (λ o. o.state) (ckpt_end_is old passes.ckpt passes.still_open)))
    (Completes passes (λ beside. beside) (λ leaves. leaves) tt refl)
answered old event.CopyFull answer none given =
    let some = full_passes old none in
    Keeps Here refl (one (Copied _ (λ leaves. leaves)
    (λ fit. (opens old Full fit (full_is_few old none) some tt, some))))
answered old (event.CopyInc parent) answer none given =
    let there = inc_passes old parent none in
    Keeps Here refl (one (Copied _ (λ leaves. leaves) (λ fit.
    let some = fit.noted parent there.0 (ap copy_in there.1) in
    (opens old (Inc parent) fit (inc_is_few old parent none) some (has_parent old parent fit none), some))))
answered old (event.Take copy page) answer none given =
    let passes = take_passes old copy page none in
    Keeps Here refl (one (Copied _ (λ leaves. leaves)
    (λ fit. (takes old copy page fit none, fit.noted copy passes.view (ap copy_in passes.is_read)))))
answered old (event.Seal copy) answer none given =
    let there = seal_passes old copy none in
    Keeps Here refl (one (Copied _ (λ leaves. leaves) (λ fit. (
      copied_sealed (log_of old) old.forced_end old.stored old.copies copy there.0 fit.copied there.1 there.2,
      fit.noted copy there.0 (ap copy_in there.1),
    ))))
answered old (event.DropCopy copy) answer none given =
    let there = drop_passes old copy none in
    Keeps Here refl (one (Copied _ (λ leaves. leaves) (λ fit. (
      copied_dropped (log_of old) old.forced_end old.stored old.copies copy there.0 fit.copied there.1,
      fit.noted copy there.0 (ap copy_in there.1),
    ))))
answered old (event.Repair copy page) answer none given =
    Keeps Here refl (Then (through old _ _ page)
    (one (Stored page _ _ _ (Repairs (λ leaves. leaves) (idle_then old copy page none)))))
answered old (event.Extend count) answer none given =
    Extends count none (λ stays. stays) (λ stays. stays) (λ leaves. leaves) refl

-- ---- each fault

-- what stands where the store failed at the end of a write
pub stored_or_not : (old : EngineState) (page : ℕ) (new : EngineState) → MayBeStored page old new
    → (new ≡ old) ⊎ ((image : Page) × (image_of old page ≡ Some image) × (new ≡ with_stored old page image))
stored_or_not old page new may = by_image (image_of old page) refl may
  where
    by_image : (o : Option Page) → image_of old page ≡ o
        → IsSomeAnd o (λ image. (new ≡ old) ⊎ (new ≡ with_stored old page image))
        → (new ≡ old) ⊎ ((image : Page) × (image_of old page ≡ Some image) × (new ≡ with_stored old page image))
    by_image None o may = absurd may
    by_image (Some image) o (inl same) = inl same
    by_image (Some image) o (inr stored) = inr (image, o, stored)

-- an error shows no call, but for an unsure Commit
not_shown : (call : Event) (why : Refusal) → ((txn lsn : ℕ) → call ≡ event.Commit txn → why ≡ CommitUnsure lsn → ⊥)
    → shown_call call (Err why) ≡ None
not_shown (event.Commit txn) (CommitUnsure lsn) other = absurd (other txn lsn refl refl)
not_shown call why other = refl

failed : (old : EngineState) (event : Event) (why : Refusal) (new : EngineState) → refusal old event ≡ None
    → Fails old event why new → Moves old event (Err why) new
failed old event OutOfMemory new none fails =
    same old event (Err OutOfMemory) new (not_shown event OutOfMemory (λ txn lsn commit unsure. (cc))) fails.1
failed old event.Force LogFault new none fails = Keeps Here refl (part old _ _ new (end old) (omega arith) fails)
failed old (event.Commit txn) (CommitUnsure lsn) new none fails =
    Adds _ Here (makes old (event.Commit txn) _ none refl) tt tt refl (part _ _ _ new _ (omega arith) fails.1)
failed old (event.WriteBegin page) LogFault new none fails =
    Keeps Here refl (part old _ _ new _ (up_to_is_record old (page_now old page).lsn) fails)
failed old (event.WriteEnd page) StoreFault new none fails = elim (stored_or_not old page new fails) [
  | inl is ↦ same old (event.WriteEnd page) (Err StoreFault) new refl is
  | inr stored ↦
      let within = (write_end_passes old page none).within in
      let ends : WriteEnds old page = record { within = within; image = stored.0; there = stored.1 } in
      subst (Moves old (event.WriteEnd page) (Err StoreFault)) (sym stored.2)
      (Keeps Here refl (one (Stored page stored.0 _ _ (GoesOn ends))))
]
failed old event.CkptEnd LogFault new none fails =
    let passes = ckpt_end_passes old none in
    let closes = closed_part old new fails in
    Adds (end_ckpt_record old closes.0) Here
    (MakesEndChkpt closes.0 (λ beside. beside) closes.1 passes.done passes.room) tt tt refl
    (part (closed old closes.0) _ _ new _ (omega arith) closes.2)
failed old (event.Take copy page) StoreFault new none fails =
    same old (event.Take copy page) (Err StoreFault) new refl fails
failed old (event.Repair copy page) LogFault new none fails =
    Keeps Here refl (part old _ _ new _ (up_to_is_record old (page_now old page).lsn) fails)
failed old (event.Repair copy page) StoreFault new none fails = elim fails [
  | inl is ↦
      subst (Moves old (event.Repair copy page) (Err StoreFault)) (sym is)
      (Keeps Here refl (one (through old _ _ page)))
  | inr is ↦
      subst (Moves old (event.Repair copy page) (Err StoreFault)) (sym is)
      (Keeps Here refl (Then (through old _ _ page)
      (one (Stored page _ _ _ (RepairsHalf (idle_then old copy page none))))))
]
failed old (event.Extend count) StoreFault new none fails =
    same old (event.Extend count) (Err StoreFault) new refl fails
failed old event StoreFault new none fails =
    same old event (Err StoreFault) new (not_shown event StoreFault (λ txn lsn commit unsure. (cc))) fails.1
failed old event why new none fails = absurd fails

-- ---- each step

pub moves : (old : EngineState) (event : Event) (reply : Result Answer Refusal) (new : EngineState)
    → Step old event reply new → Moves old event reply new
moves old event (Ok answer) new step =
    subst (Moves old event (Ok answer)) (sym step.2) (answered old event answer step.0 step.1)
moves old event (Err why) new (inl both) =
    same old event (Err why) new (not_shown event why (λ txn lsn commit unsure.
    commit_not_unsure old txn lsn (rw (commit, unsure) at both.0))) both.1
moves old event (Err why) new (inr both) = failed old event why new both.0 both.1
