-- The volume grows: an engine that was fit stays so.
use Rattle.std.proofs.Common.{◌≡◌, ℕ, ◌-◌, ◌<◌, ◌≤◌, ◌++◌, [], ◌∷◌, length, get_or, map, refl, sym}
use Rattle.std.proofs.Common.{ap, subst, ◌∙◌, arith, inl, inr, false, true≢false, replicate}
use Rattle.std.specs.Prelude.{IfSome, Option, Some, None, Err, is_none}
use Rattle.std.specs.List.{range_with_len}
use Rattle.std.proofs.Math.Nat.{max-eq_right}
use Rattle.std.proofs.lemmas.Bool.{cases_lt}
use Rattle.std.proofs.lemmas.List.{get_or_past, length_push}
use Rattle.std.proofs.lemmas.List.Elements.{All-append, All-map}
use Rattle.page_core.specs.declared.page.Page.{Page}
use Rattle.page_core.specs.Page.{formatted}
use Rattle.page_core.specs.Volume.{grown_to}
use Rattle.page_core.proofs.Public.{length-grown_to}
use Rattle.log_records.specs.declared.limits.TheConstants.{MAX_RECORDS}
use Rattle.log_records.specs.Coverage.{AreStored, rec_lsn}
use Rattle.log_records.specs.Image.{image}
use Rattle.log_records.specs.Log.{with_next}
use Rattle.log_records.proofs.Public.{image_is_clean, rec_later, page_count-push, image_past}
use Rattle.log_records.proofs.Public.{stored_later}
use Rattle.log_rules.specs.Checkpoint.{Checkpoint, open_checkpoint}
use Rattle.log_rules.proofs.Public.{valid_next, linked_push}
use Rattle.buffer_pool.specs.Frames.{IsResident}
use Rattle.buffer_pool.specs.Pool.{is_clean}
use Rattle.buffer_pool.proofs.Public.{extended_at, length-extended, stored_extended, stored_grown}
use Rattle.buffer_pool.proofs.Public.{images_later, resident_later}
use Rattle.fuzzy_ckpt.specs.declared.point.Point.{Point}
use Rattle.fuzzy_ckpt.specs.Ckpt.{AreCovered, IsCkptOf}
use Rattle.fuzzy_ckpt.proofs.Public.{all_grown, behind_grown, behind_later, ckpt_grown, open_before}
use Rattle.fuzzy_ckpt.proofs.Public.{open_grown}
use Rattle.copy_coverage.specs.Copied.{AreCopied}
use Rattle.copy_coverage.proofs.Public.{copied_later, copied_grown}
use Rattle.engine_calls.specs.declared.event.Event.TheVariants as event
use Rattle.engine_calls.specs.declared.refusal.Refusal.{Refusal}
use Rattle.engine_calls.specs.declared.refusal.Refusal.TheVariants.{OutOfMemory, StoreFault}
use Rattle.engine_rules.specs.EngineState.{AreCounted, AreHeld, AreStable, EngineState, IsFit}
use Rattle.engine_rules.specs.EngineState.{IsGathering, effect, end, extend_record, log_of}
use Rattle.engine_rules.specs.EngineState.{volume_pages}
use Rattle.engine_rules.specs.Gather.{session_of}
use Rattle.engine_rules.specs.Refusal.{refusal}
use Rattle.engine_rules.specs.Step.{Fails, Step}
use Rattle.engine_rules.proofs.Beside.{HasMaster, master_later}
use Rattle.engine_rules.proofs.CkptFits.{forced_within}
use Rattle.engine_rules.proofs.Gathers.{AreGathered}
use Rattle.engine_rules.proofs.GatherSteps.{session_same}
use Rattle.engine_rules.proofs.Makes.{Makes, MakesExtend}
use Rattle.engine_rules.proofs.PageComes.{dirty_after}
use Rattle.engine_rules.proofs.Refusals.{extend_passes}
use Rattle.engine_rules.proofs.Rooms.{room_grows, room_push}
use Rattle.engine_rules.proofs.Stands.{stands}

pub lsn_of_formatted : (p : ℕ) → (formatted p).lsn ≡ 0
unfolding formatted
lsn_of_formatted p = refl

abbrev pub extended : EngineState → ℕ → EngineState
extended s count = (effect s (event.Extend count)).state

-- the volume then has as many pages as were asked for
pub count_then : (s : EngineState) (count : ℕ) → refusal s (event.Extend count) ≡ None
    → volume_pages (extended s count) ≡ count
count_then s count none =
    let more = (extend_passes s count none).more in
    page_count-push (log_of s) (extend_record s count) ∙ max-eq_right (omega arith)

-- ---- the pages

module _ (s : EngineState) (count : ℕ) (fit : IsFit s) (none : refusal s (event.Extend count) ≡ None) where
  counted_then : AreCounted (extended s count)
  counted_then =
      let more = (extend_passes s count none).more in
      let now = count_then s count none in
      let before = fit.counted in
      record {
        stored = omega (arith, length-grown_to count s.stored, before.stored, now, more);
        written = omega (arith, length-extended s.written count 0, before.written, now, more);
        writing = omega (arith, length-extended s.writing count None, before.writing, now, more);
      }

  -- no record changes a page that is added, so it is clean
  added_is_clean : (p : ℕ) → volume_pages s ≤ p
      → is_clean (s.log ++ extend_record s count ∷ []) s.written p ≡ false → IsResident s.resident p
  added_is_clean p past dirty =
      let r = extend_record s count in
      let unwritten : get_or s.written p 0 ≡ 0 = get_or_past s.written p 0 (omega (arith, fit.counted.written)) in
      let zero_lsn : (image s.log p).lsn ≡ 0 =
      ap (λ (q : Page). q.lsn) (image_past (log_of s) p fit.valid past) ∙ lsn_of_formatted p in
      let now : rec_lsn s.log p 0 ≡ None =
      subst (λ (n : ℕ). rec_lsn s.log p n ≡ None) zero_lsn (image_is_clean (log_of s) p fit.valid) in
      let then : rec_lsn (s.log ++ r ∷ []) p 0 ≡ None =
      rec_later (log_of s) r p 0 fit.valid refl (omega arith) ∙ now in
      let clean = ap (λ (n : ℕ). is_none (rec_lsn (s.log ++ r ∷ []) p n)) unwritten
      ∙ ap (λ (o : Option ℕ). is_none o) then in
      absurd (true≢false (sym clean ∙ dirty))

  held_then : AreHeld (extended s count)
  held_then p lt dirty =
      let r = extend_record s count in
      let before : is_clean (s.log ++ r ∷ []) s.written p ≡ false =
      ap (λ (n : ℕ). is_none (rec_lsn (s.log ++ r ∷ []) p n))
      (sym (extended_at s.written (count - length s.written) p 0)) ∙ dirty in
      resident_later s.resident r p ∙ (elim (cases_lt p (volume_pages s)) [
        | inl low ↦ dirty_after s r p fit low refl tt before
        | inr past ↦ added_is_clean p past before
      ])

  stored_then : let after = extended s count in AreStored after.log after.stored after.written after.writing
  stored_then =
      let r = extend_record s count in
      let written = s.written ++ replicate (count - length s.written) 0 in
      let writing = s.writing ++ replicate (count - length s.writing) None in
      let before = fit.counted in
      stored_later s.log (r ∷ []) (grown_to count s.stored) written writing
      (stored_extended s.log (grown_to count s.stored) s.written s.writing (count - length s.written)
      (count - length s.writing)
      (stored_grown (log_of s) s.stored count s.written s.writing fit.valid (omega (arith, before.stored))
      (omega (arith, before.stored, before.written)) (omega (arith, before.stored, before.writing)) fit.stored))

  stable_then : AreStable (extended s count)
  stable_then = record {
    pages = All-append (λ page. page.lsn < s.forced_end) s.stored
        (map formatted (range_with_len (length s.stored) (count - length s.stored))) fit.stable.pages
        (All-map (λ page. page.lsn < s.forced_end) formatted
        (range_with_len (length s.stored) (count - length s.stored))
        (λ i d lt. low (get_or (range_with_len (length s.stored) (count - length s.stored)) i d)));
    images = λ p. rw (extended_at s.writing (count - length s.writing) p None) (fit.stable.images p);
  }
    where
      low : (n : ℕ) → (formatted n).lsn < s.forced_end
      low n = omega (arith, lsn_of_formatted n, fit.forced.2)

-- ---- the checkpoints, and the copies

module _ (s : EngineState) (count : ℕ) (fit : IsFit s) (none : refusal s (event.Extend count) ≡ None) where
  is_enough : volume_pages s ≤ length s.stored
  is_enough = omega (arith, fit.counted.stored)

  gathered_then : let after = extended s count in AreGathered (log_of after) after.stored after.left
  gathered_then =
      let next = with_next (log_of s) (extend_record s count ∷ []) in
      subst (λ (o : Option Checkpoint). IfSome o (IsGathering next (grown_to count s.stored) s.left))
      (sym (open_grown s.log (end s) count)) (by_open (open_checkpoint s.log) refl fit.gathered)
    where
      by_open : (o : Option Checkpoint) → open_checkpoint s.log ≡ o
          → IfSome o (IsGathering (log_of s) s.stored s.left)
          → IfSome o (IsGathering (with_next (log_of s) (extend_record s count ∷ [])) (grown_to count s.stored) s.left)
      by_open None is are = tt
      by_open (Some c) is are =
          let r = extend_record s count in
          let it = session_of (log_of s) s.left c in
          let same = sym (session_same (log_of s) r s.left c (open_before (log_of s) c fit.valid is).begin.earlier) in
          record {
            ckpt = subst (IsCkptOf (with_next (log_of s) (r ∷ []))) same
                (ckpt_grown (log_of s) (end s) count it fit.valid fit.linked refl are.ckpt);
            covered = subst (AreCovered (s.log ++ r ∷ []) (grown_to count s.stored)) same
                (behind_later (log_of s) r (grown_to count s.stored) it fit.valid refl are.ckpt
                (behind_grown (log_of s) s.stored count fit.valid is_enough it are.covered));
          }

  master_grown : (master : Option Point) → HasMaster (log_of s) s.stored s.forced_end master
      → HasMaster (log_of s) (grown_to count s.stored) s.forced_end master
  master_grown None has = tt
  master_grown (Some point) has = record {
    complete = has.complete;
    same_redo = has.same_redo;
    same_pages = has.same_pages;
    forced = has.forced;
    covered = all_grown (log_of s) s.stored count fit.valid is_enough point.redo has.covered;
  }

  master_then : let after = extended s count in HasMaster (log_of after) after.stored after.forced_end after.master
  master_then =
      master_later (log_of s) (extend_record s count) (grown_to count s.stored) s.forced_end s.master fit.valid refl
      (forced_within s fit) (master_grown s.master fit.master)

  copied_then : let after = extended s count in AreCopied (log_of after) after.forced_end after.stored after.copies
  copied_then =
      copied_later (log_of s) (extend_record s count) s.forced_end (grown_to count s.stored) s.copies refl
      (forced_within s fit)
      (copied_grown (log_of s) s.forced_end count s.stored s.copies fit.valid is_enough fit.copied)

-- ---- the engine

pub extended_fit : (s : EngineState) (count : ℕ) → IsFit s → refusal s (event.Extend count) ≡ None
    → IsFit (extended s count)
extended_fit s count fit none =
    let r = extend_record s count in
    let passes = extend_passes s count none in
    let few : length s.log < MAX_RECORDS = let room = passes.room in omega arith in
    let makes : Makes s (event.Extend count) r = MakesExtend count (λ stays. stays) (λ stays. stays) passes in
    record {
      valid = valid_next (log_of s) r fit.valid few (stands s (event.Extend count) r fit tt makes) passes.more;
      linked = linked_push s.log r fit.linked tt;
      room = room_push s.log r s.forced_end fit.room (room_grows s (event.Extend count) r fit makes);
      forced = (fit.forced.0, omega (arith, fit.forced.1, length_push s.log r), fit.forced.2);
      counted = counted_then s count fit none;
      resident = images_later s.log r s.resident fit.resident;
      held = held_then s count fit none;
      stored = stored_then s count fit none;
      stable = stable_then s count fit none;
      gathered = gathered_then s count fit none;
      master = master_then s count fit none;
      copied = copied_then s count fit none;
      noted = fit.noted;
    }

-- where it does not grow, nothing changes
pub growth_failed : (old : EngineState) (count : ℕ) (why : Refusal) (new : EngineState)
    → Step old (event.Extend count) (Err why) new → new ≡ old
growth_failed old count why new (inl both) = both.1
growth_failed old count why new (inr both) = by_reason why both.1
  where
    by_reason : (why : Refusal) → Fails old (event.Extend count) why new → new ≡ old
    by_reason OutOfMemory fails = fails.1
    by_reason StoreFault fails = fails
    by_reason why fails = absurd fails
