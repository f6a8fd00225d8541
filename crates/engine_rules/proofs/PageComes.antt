-- A page that comes into memory leaves the engine fit.
use Rattle.std.proofs.Common.{◌≡◌, ℕ, ◌<◌, ◌++◌, Bool, true, false, cond, [], ◌∷◌, length, get_or}
use Rattle.std.proofs.Common.{refl, sym, ap, subst, ◌∙◌, arith, true≢false, eqb}
use Rattle.std.specs.Prelude.{Option, Some, None, IfSome, is_none}
use Rattle.std.specs.Option.{option_map, option_map_or, unwrap_or}
use Rattle.std.proofs.lemmas.Bool.{eqb-true}
use Rattle.std.proofs.lemmas.List.Elements.{All-push}
use Rattle.page_core.specs.declared.page.Page.{Page}
use Rattle.page_core.specs.Page.{formatted}
use Rattle.log_records.specs.Coverage.{changes, rec_lsn}
use Rattle.log_records.specs.Image.{image}
use Rattle.log_records.specs.Record.{change_of, own_lsn}
use Rattle.log_records.specs.declared.page_change.PageChange.{PageChange}
use Rattle.log_records.specs.declared.record.Record.{Record}
use Rattle.log_records.proofs.Public.{change_within, rec_later, number-image}
use Rattle.log_rules.specs.declared.pending_change.PendingChange.{PendingChange}
use Rattle.log_rules.specs.Transactions.{is_open, last_of, pending}
use Rattle.buffer_pool.specs.Frames.{IsResident, fetched, is_resident, with_room}
use Rattle.buffer_pool.specs.Pool.{is_clean}
use Rattle.buffer_pool.proofs.Public.{all_stay, dirty_kept, resident_last}
use Rattle.engine_calls.specs.declared.event.Event.{Event}
use Rattle.engine_calls.specs.declared.event.Event.TheVariants as event
use Rattle.page_core.specs.declared.change.ChangeKind.TheVariants as kind
use Rattle.engine_rules.specs.EngineState.{AreCounted, AreHeld, AreImages, AreStable, EngineState}
use Rattle.engine_rules.specs.EngineState.{IsFit, comp_record, end, log_of, page_needed, rec_lsn_of}
use Rattle.engine_rules.specs.EngineState.{stored_page, taken_back, with_page, volume_pages}
use Rattle.engine_rules.specs.Refusal.{refusal}
use Rattle.engine_rules.proofs.PageLaws.{clean_is_stored}
use Rattle.engine_rules.proofs.Refusals.{back_passes, change_passes, read_passes, undo_passes}
use Rattle.engine_rules.proofs.Makes.{MakesComp, taken_is_last}
use Rattle.engine_rules.proofs.Stands.{stands}

-- ---- the page that comes in

-- a page that is not in memory is not dirty
absent_is_clean : (s : EngineState) (p : ℕ) → IsFit s → p < volume_pages s → is_resident s.resident p ≡ false
    → rec_lsn_of s p ≡ None
absent_is_clean s p fit within absent = by_test (rec_lsn_of s p) refl
  where
    by_test : (o : Option ℕ) → rec_lsn_of s p ≡ o → rec_lsn_of s p ≡ None
    by_test None e = e
    by_test (Some lsn) e =
        absurd (true≢false (sym (fit.held p within (ap (λ (o : Option ℕ). is_none o) e)) ∙ absent))

-- so it is stored as it is now
pub stored_is_now : (s : EngineState) (p : ℕ) → IsFit s → p < volume_pages s → is_resident s.resident p ≡ false
    → stored_page s p ≡ image s.log p
stored_is_now s p fit within absent =
    clean_is_stored s p (formatted p) fit within (absent_is_clean s p fit within absent)

pub number_is : (s : EngineState) (p : ℕ) → IsFit s → p < volume_pages s → is_resident s.resident p ≡ false
    → (stored_page s p).number ≡ p
number_is s p fit within absent =
    ap (λ (q : Page). q.number) (stored_is_now s p fit within absent) ∙ number-image s.log p

-- the page is in memory then
pub page_comes : (s : EngineState) (p : ℕ) → IsFit s → p < volume_pages s → IsResident (with_page s p).resident p
page_comes s p fit within = by_test (is_resident s.resident p) refl
  where
    clean : ℕ → Bool
    clean = is_clean s.log s.written

    by_test : (b : Bool) → is_resident s.resident p ≡ b
        → IsResident (cond b s.resident (fetched s.frames clean s.resident (stored_page s p))) p
    by_test true e = e
    by_test false e =
        resident_last (with_room s.frames clean s.resident) (stored_page s p) p (number_is s p fit within e)

pub fetched_fit : (s : EngineState) (p : ℕ) → IsFit s → p < volume_pages s → IsFit (with_page s p)
fetched_fit s p fit within =
    let counted : AreCounted (with_page s p) = assumption (fit.counted) in
    let resident = images (is_resident s.resident p) refl in
    let held : AreHeld (with_page s p) = λ q lt dirty. held q lt dirty (is_resident s.resident p) in
    let stable : AreStable (with_page s p) = assumption (fit.stable) in
    assumption (counted, resident, held, stable, fit)
  where
    clean : ℕ → Bool
    clean = is_clean s.log s.written

    images : (b : Bool) → is_resident s.resident p ≡ b
        → AreImages s.log (cond b s.resident (fetched s.frames clean s.resident (stored_page s p)))
    images true e = fit.resident
    images false e =
        All-push (λ x. x ≡ image s.log x.number) (with_room s.frames clean s.resident) (stored_page s p)
        (all_stay (λ x. x ≡ image s.log x.number) s.frames clean s.resident fit.resident)
        (stored_is_now s p fit within e ∙ ap (image s.log) (sym (number_is s p fit within e)))

    held : (q : ℕ) → q < volume_pages s → clean q ≡ false → (b : Bool)
        → IsResident (cond b s.resident (fetched s.frames clean s.resident (stored_page s p))) q
    held q lt dirty true = fit.held q lt dirty
    held q lt dirty false = dirty_kept s.frames clean s.resident (stored_page s p) q dirty (fit.held q lt dirty)

-- ---- the page that a call needs

-- a change that is taken back is one of a page of the volume
comp_within : (s : EngineState) (txn : ℕ) (p : PendingChange) → IsFit s → is_open s.log txn ≡ true
    → last_of (pending s.log txn) ≡ Some p → p.page < volume_pages s
comp_within s txn p fit still_open last =
    change_within (volume_pages s) (comp_record s txn p)
    (stands s event.Force (comp_record s txn p) fit tt (MakesComp txn p still_open last)).within

-- it is one of the volume
pub needed_within : (s : EngineState) (event : Event) → IsFit s → refusal s event ≡ None
    → IfSome (page_needed s event) (λ p. p < volume_pages s)
needed_within s (event.Set txn page slot number) fit none = (change_passes s txn page slot kind.Set none).place.within
needed_within s (event.Add txn page slot amount) fit none = (change_passes s txn page slot kind.Add none).place.within
needed_within s (event.Read page slot) fit none = (read_passes s page slot none).within
needed_within s (event.UndoStep txn) fit none = by_last (last_of (pending s.log txn)) refl
  where
    by_last : (o : Option PendingChange) → last_of (pending s.log txn) ≡ o
        → IfSome (option_map (λ p. p.page) o) (λ p. p < volume_pages s)
    by_last None e = tt
    by_last (Some p) e =
        comp_within s txn p fit (undo_passes s txn none).still_open e
needed_within s (event.UndoTo txn at) fit none = by_taken (taken_back s txn at) refl
  where
    by_taken : (o : Option PendingChange) → taken_back s txn at ≡ o
        → IfSome (option_map (λ p. p.page) o) (λ p. p < volume_pages s)
    by_taken None e = tt
    by_taken (Some p) e =
        comp_within s txn p fit (back_passes s txn at none).still_open (taken_is_last s txn at p e)
needed_within s other fit none = tt

-- ---- a page that is dirty with a record more

-- the last write of a page is no change to come
written_low : (s : EngineState) (r : Record) (q : ℕ) → IsFit s → q < volume_pages s → own_lsn r ≡ end s
    → get_or s.written q 0 < own_lsn r
written_low s r q fit within own =
    let there : q < length s.stored = let count = fit.counted.stored in omega arith in
    let d = formatted q in
    let reached = (fit.stored.pages q d there).reached in
    let stable = fit.stable.pages q d there in
    let forced = fit.forced.1 in
    let at = fit.forced.2 in
    omega arith

-- a record more makes dirty the page that it changes alone
pub dirty_after : (s : EngineState) (r : Record) (q : ℕ) → IsFit s → q < volume_pages s → own_lsn r ≡ end s
    → IfSome (change_of r) (λ c. IsResident s.resident c.page)
    → is_clean (s.log ++ r ∷ []) s.written q ≡ false → IsResident s.resident q
dirty_after s r q fit within own here dirty = by_test (changes q r) refl
  where
    later : rec_lsn (s.log ++ r ∷ []) q (get_or s.written q 0)
        ≡ cond (changes q r) (Some (unwrap_or (rec_lsn s.log q (get_or s.written q 0)) (own_lsn r)))
        (rec_lsn s.log q (get_or s.written q 0))
    later = rec_later (log_of s) r q (get_or s.written q 0) fit.valid own (written_low s r q fit within own)

    changed : (o : Option PageChange) → option_map_or (λ c. eqb c.page q) o false ≡ true
        → IfSome o (λ c. IsResident s.resident c.page) → IsResident s.resident q
    changed None e there = absurd (cc)
    changed (Some c) e there = subst (IsResident s.resident) (eqb-true c.page q e) there

    by_test : (b : Bool) → changes q r ≡ b → IsResident s.resident q
    by_test true e = changed (change_of r) e here
    by_test false e =
        fit.held q within
        (ap (λ (o : Option ℕ). is_none o)
        (sym (later ∙ ap (λ b. cond b (Some (unwrap_or (rec_lsn s.log q (get_or s.written q 0)) (own_lsn r)))
        (rec_lsn s.log q (get_or s.written q 0))) e)) ∙ dirty)
