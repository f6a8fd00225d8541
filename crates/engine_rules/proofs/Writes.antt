-- A write of a page begins, or a page is stored: an engine that was fit stays so.
use Rattle.std.proofs.Common.{◌≡◌, ℕ, ◌*◌, ◌<◌, ◌≤◌, Bool, true, false, cond, List, [], ◌∷◌, length}
use Rattle.std.proofs.Common.{filter, get_or, set, take, ◌⊎◌, refl, sym, ap, subst, ◌∙◌, arith, inl}
use Rattle.std.proofs.Common.{inr, true≢false}
use Rattle.std.specs.Prelude.{Option, Some, None, IfSome, Result, is_none, nat_lt}
use Rattle.std.proofs.lemmas.Bool.{cases_eq, cases_lt, le-ltb, ltb-false}
use Rattle.std.proofs.lemmas.List.{get_or-set_other, get_or-set_same, get_or_past, length-set}
use Rattle.std.proofs.lemmas.List.{take_all}
use Rattle.std.proofs.lemmas.List.Elements.{All-set}
use Rattle.page_core.specs.declared.page.Page.{Page}
use Rattle.page_core.specs.Page.{formatted}
use Rattle.log_records.specs.Coverage.{AreStored, IsWriting, changes_on, rec_lsn}
use Rattle.log_records.specs.Least.{least}
use Rattle.log_records.proofs.Public.{past_is_older, past_now, stored_begun, stored_ended}
use Rattle.log_records.proofs.Public.{stored_failed, lsn-image}
use Rattle.log_records.specs.declared.record.Record.{Record}
use Rattle.log_records.specs.declared.record.Record.TheVariants.{Begin}
use Rattle.log_records.specs.Image.{image}
use Rattle.log_store.specs.WrittenLog.{end_up_to}
use Rattle.buffer_pool.proofs.Public.{stored_half, stored_repaired}
use Rattle.buffer_pool.specs.Pool.{is_clean}
use Rattle.copy_coverage.specs.Copied.{AreCopied}
use Rattle.copy_coverage.proofs.Public.{copied_stored}
use Rattle.engine_calls.specs.declared.event.Answer.{Answer}
use Rattle.engine_calls.specs.declared.event.Event.{Event}
use Rattle.engine_calls.specs.declared.refusal.Refusal.{Refusal}
use Rattle.engine_rules.specs.EngineState.{AreCounted, AreHeld, AreStable, EngineState, IsFit}
use Rattle.engine_rules.specs.EngineState.{begun_write, image_of, log_of, page_now, volume_pages}
use Rattle.engine_rules.proofs.Beside.{HasMaster, gathered_set, master_set}
use Rattle.engine_rules.proofs.Gathers.{AreGathered}
use Rattle.engine_rules.proofs.Moves.{Ends, GoesOn, Repairs, RepairsHalf, Storing}

-- the LSN of an image is below the end of the log up to it
image_is_stable : (s : EngineState) (p : ℕ) → IsFit s
    → (page_now s p).lsn < end_up_to (log_of s) (page_now s p).lsn
image_is_stable s p fit =
    let rs = s.log in
    let whole : take (length rs) rs ≡ rs = take_all (length rs) rs (omega arith) in
    let most : (image rs p).lsn ≤ 64 * length rs =
    subst (λ (xs : List Record). (image xs p).lsn ≤ 64 * length rs) whole
    (lsn-image (log_of s) fit.valid p (length rs) (Begin 0 0) (omega arith)) in
    omega arith

-- the image of one page, where another or itself may have changed
image_set : (writing : List (Option Page)) (n p : ℕ) (o : Option Page) (P : Page → Type 0) → IfSome o P
    → IfSome (get_or writing p None) P → IfSome (get_or (set writing n o) p None) P
image_set writing n p o P here rest = elim (cases_eq p n) [
  | inl same ↦ elim (cases_lt n (length writing)) [
    | inl within ↦
        rw (same, get_or-set_same writing n o None within) here
    | inr past ↦
        let none : get_or (set writing n o) p None ≡ None =
        get_or_past (set writing n o) p None (omega (arith, length-set writing n o)) in
        rw none tt
  ]
  | inr other ↦ rw (get_or-set_other writing n p o None other) rest
]

-- the page as it is now is newer than the stored one
now_is_newer : (s : EngineState) (n : ℕ) (d : Page) → IsFit s → n < length s.stored
    → IsWriting s.log n (get_or s.stored n d) (page_now s n)
now_is_newer s n d fit there = record {
  past = past_now s.log n;
  newer = past_is_older (log_of s) n (get_or s.stored n d) fit.valid (fit.stored.pages n d there).past;
}

-- ---- a write begins

pub begun_fit : (s : EngineState) (page : ℕ) → IsFit s → page < volume_pages s
    → end_up_to (log_of s) (page_now s page).lsn ≤ s.forced_end → IsFit (begun_write s page (page_now s page))
begun_fit s page fit within forced =
    let now = page_now s page in
    let after = begun_write s page now in
    let there : page < length s.stored = let count = fit.counted.stored in omega arith in
    let room : page < length s.writing = let count = fit.counted.writing in omega arith in
    let counted : AreCounted after = record {
      stored = fit.counted.stored;
      written = fit.counted.written;
      writing = length-set s.writing page (Some now) ∙ fit.counted.writing;
    } in
    let stored : AreStored s.log s.stored s.written (set s.writing page (Some now)) =
    stored_begun s.log s.stored s.written s.writing page now fit.stored room (λ d. now_is_newer s page d fit there) in
    let stable : AreStable after = record {
      pages = fit.stable.pages;
      images = λ p. image_set s.writing page p (Some now) (λ image. image.lsn < s.forced_end)
          (let stable = image_is_stable s page fit in omega arith) (fit.stable.images p);
    } in
    assumption (counted, stored, stable, fit)

-- ---- a page is stored

-- none is above an LSN if none is above a lesser one
none_above : (lsns : List ℕ) (low high : ℕ) → low ≤ high → least (filter (nat_lt low) lsns) ≡ None
    → least (filter (nat_lt high) lsns) ≡ None
none_above [] low high le none = refl
none_above (lsn ∷ lsns) low high le none =
    by_test (nat_lt low lsn) refl none (λ rest. none_above lsns low high le rest)
  where
    by_test : (b : Bool) → nat_lt low lsn ≡ b
        → least (cond b (lsn ∷ filter (nat_lt low) lsns) (filter (nat_lt low) lsns)) ≡ None
        → (least (filter (nat_lt low) lsns) ≡ None → least (filter (nat_lt high) lsns) ≡ None)
        → least (filter (nat_lt high) (lsn ∷ lsns)) ≡ None
    by_test true e some later = absurd (cc)
    by_test false e rest later =
        let below : lsn ≤ low = ltb-false low lsn e in
        rw (le-ltb high lsn (omega arith)) (later rest)

-- a page that is dirty by the last writes was so by the older ones: of one page another LSN counts as the
-- last write, which is no lesser one
dirty_unless : (rs : List Record) (written : List ℕ) (q p lsn : ℕ) → q < length written
    → (q ≡ p → get_or written q 0 ≤ lsn) → is_clean rs (set written p lsn) q ≡ false → is_clean rs written q ≡ false
dirty_unless rs written q p lsn known no_later dirty = elim (cases_eq q p) [
  | inl same ↦ by_test same (rec_lsn rs q (get_or written q 0)) refl
  | inr other ↦ ap (λ n. is_none (rec_lsn rs q n)) (sym (get_or-set_other written p q lsn 0 other)) ∙ dirty
]
  where
    now_is : q ≡ p → get_or (set written p lsn) q 0 ≡ lsn
    now_is same =
        ap (λ n. get_or (set written n lsn) q 0) (sym same) ∙ get_or-set_same written q lsn 0 known

    by_test : q ≡ p → (o : Option ℕ) → rec_lsn rs q (get_or written q 0) ≡ o → is_clean rs written q ≡ false
    by_test same (Some found) e = ap (λ (o : Option ℕ). is_none o) e
    by_test same None e =
        let none = none_above (changes_on rs q) (get_or written q 0) lsn (no_later same) e in
        absurd (true≢false (sym (ap (λ (o : Option ℕ). is_none o)
        (ap (rec_lsn rs q) (now_is same) ∙ none)) ∙ dirty))

-- what holds of a page that is stored
record Safe (s : EngineState) (page : ℕ) (image : Page) (written : List ℕ) (writing : List (Option Page))
    : Type 0 where
  within : page < volume_pages s
  newer : (d : Page) → IsWriting s.log page (get_or s.stored page d) image
  low : image.lsn < s.forced_end
  last : (written ≡ set s.written page image.lsn) ⊎ (written ≡ s.written)
  count : length writing ≡ length s.writing
  stored : AreStored s.log (set s.stored page image) written writing
  images : (p : ℕ) → IfSome (get_or writing p None) (λ image. image.lsn < s.forced_end)

module _ (s : EngineState) (page : ℕ) (fit : IsFit s) (within : page < volume_pages s) where
  there : page < length s.stored
  there = let count = fit.counted.stored in omega arith

  known : page < length s.written
  known = let count = fit.counted.written in omega arith

  room : page < length s.writing
  room = let count = fit.counted.writing in omega arith

  image_is_newer : (image d : Page) → image_of s page ≡ Some image
      → IsWriting s.log page (get_or s.stored page d) image
  image_is_newer image d is =
      subst (λ (o : Option Page). IfSome o (IsWriting s.log page (get_or s.stored page d))) is
      (fit.stored.images page d there)

  image_is_low : (image : Page) → image_of s page ≡ Some image → image.lsn < s.forced_end
  image_is_low image is =
      subst (λ (o : Option Page). IfSome o (λ image. image.lsn < s.forced_end)) is (fit.stable.images page)

safe : (s : EngineState) (event : Event) (reply : Result Answer Refusal) (page : ℕ) (image : Page) (written : List ℕ)
    (writing : List (Option Page)) → IsFit s → Storing s event reply page image written writing
    → Safe s page image written writing
safe s event reply page image written writing fit (Ends writes ends) = record {
  within = ends.within;
  newer = λ d. image_is_newer s page fit ends.within ends.image d ends.there;
  low = image_is_low s page fit ends.within ends.image ends.there;
  last = inl refl;
  count = length-set s.writing page None;
  stored = stored_ended s.log s.stored s.written s.writing page ends.image fit.stored (there s page fit ends.within)
      (known s page fit ends.within) (room s page fit ends.within) ends.there;
  images = λ p. image_set s.writing page p None (λ image. image.lsn < s.forced_end) tt (fit.stable.images p);
}
safe s event reply page image written writing fit (GoesOn ends) = record {
  within = ends.within;
  newer = λ d. image_is_newer s page fit ends.within ends.image d ends.there;
  low = image_is_low s page fit ends.within ends.image ends.there;
  last = inr refl;
  count = refl;
  stored = stored_failed s.log s.stored s.written s.writing page ends.image fit.stored (there s page fit ends.within)
      ends.there;
  images = fit.stable.images;
}
safe s event reply page image written writing fit (Repairs writes idle) = record {
  within = idle.within;
  newer = λ d. now_is_newer s page d fit (there s page fit idle.within);
  low = let stable = image_is_stable s page fit in let forced = idle.forced in omega arith;
  last = inl refl;
  count = refl;
  stored = stored_repaired s.log s.stored s.written s.writing page (page_now s page) fit.stored
      (there s page fit idle.within) (known s page fit idle.within) idle.idle (past_now s.log page);
  images = fit.stable.images;
}
safe s event reply page image written writing fit (RepairsHalf idle) = record {
  within = idle.within;
  newer = λ d. now_is_newer s page d fit (there s page fit idle.within);
  low = let stable = image_is_stable s page fit in let forced = idle.forced in omega arith;
  last = inr refl;
  count = refl;
  stored = stored_half s.log s.stored s.written s.writing page (page_now s page) fit.stored
      (there s page fit idle.within) idle.idle (past_now s.log page)
      (λ d. (now_is_newer s page d fit (there s page fit idle.within)).newer);
  images = fit.stable.images;
}

pub stored_fit : (s : EngineState) (event : Event) (reply : Result Answer Refusal) (page : ℕ) (image : Page)
    (written : List ℕ) (writing : List (Option Page)) → IsFit s
    → Storing s event reply page image written writing
    → IsFit (record s { stored = set s.stored page image; written = written; writing = writing })
stored_fit s event reply page image written writing fit storing =
    let is = safe s event reply page image written writing fit storing in
    let stored_there = there s page fit is.within in
    let after : EngineState = record s { stored = set s.stored page image; written = written; writing = writing } in
    let counted : AreCounted after = record {
      stored = length-set s.stored page image ∙ fit.counted.stored;
      written = count_of is.last ∙ fit.counted.written;
      writing = is.count ∙ fit.counted.writing;
    } in
    let held : AreHeld after = λ q lt dirty. fit.held q lt (was_dirty q lt is is.last dirty) in
    let stored = is.stored in
    let stable : AreStable after = record {
      pages = All-set (λ page. page.lsn < s.forced_end) s.stored page image is.low fit.stable.pages;
      images = is.images;
    } in
    let gathered : AreGathered (log_of s) (set s.stored page image) s.left =
    gathered_set (log_of s) s.stored s.left page image image (is.newer image) stored_there fit.gathered in
    let master : HasMaster (log_of s) (set s.stored page image) s.forced_end s.master =
    master_set (log_of s) s.stored s.forced_end s.master page image image (is.newer image) stored_there fit.master in
    let copied : AreCopied (log_of s) s.forced_end (set s.stored page image) s.copies =
    copied_stored (log_of s) s.forced_end s.stored s.copies page image fit.copied stored_there (is.newer image).past
    (λ d. (is.newer d).newer) in
    assumption (counted, held, stored, stable, gathered, master, copied, fit)
  where
    count_of : (written ≡ set s.written page image.lsn) ⊎ (written ≡ s.written) → length written ≡ length s.written
    count_of (inl is) = ap length is ∙ length-set s.written page image.lsn
    count_of (inr is) = ap length is

    was_dirty : (q : ℕ) → q < volume_pages s → Safe s page image written writing
        → (written ≡ set s.written page image.lsn) ⊎ (written ≡ s.written)
        → is_clean s.log written q ≡ false → is_clean s.log s.written q ≡ false
    was_dirty q lt safe (inl is) dirty =
        dirty_unless s.log s.written q page image.lsn (known s q fit lt)
        (λ same.
        let d = formatted q in
        let reached = (fit.stored.pages q d (there s q fit lt)).reached in
        let newer = subst (λ n. (get_or s.stored n d).lsn ≤ image.lsn) (sym same) (safe.newer d).newer in
        omega arith)
        (ap (λ (w : List ℕ). is_clean s.log w q) (sym is) ∙ dirty)
    was_dirty q lt safe (inr is) dirty = ap (λ (w : List ℕ). is_clean s.log w q) (sym is) ∙ dirty
