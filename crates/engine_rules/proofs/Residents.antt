-- The pages in memory: at most as many as there are frames, and each of them once.
use Rattle.std.proofs.Common.{◌≡◌, ℕ, ◌+◌, ◌<◌, ◌≤◌, ◌++◌, ◌||◌, Bool, true, false, cond, List, []}
use Rattle.std.proofs.Common.{◌∷◌, length, map, nat_eq, refl, sym, ap, subst, ◌∙◌, arith, inl, inr}
use Rattle.std.specs.Prelude.{◌==◌, Option, None, IfSome, Result}
use Rattle.std.specs.List.{All, AllByRecursion, IsDistinct, list_any}
use Rattle.std.proofs.lemmas.Bool.{cases_lt, not-false}
use Rattle.std.proofs.lemmas.Cmp.{nat_eq_equiv}
use Rattle.std.proofs.lemmas.List.{length-map, length_push, map-append}
use Rattle.std.proofs.lemmas.List.Elements.{All-head, All-tail}
use Rattle.std.proofs.lemmas.Map.Keys.{IsDistinct-push}
use Rattle.page_core.specs.declared.page.Page.{Page}
use Rattle.log_records.specs.declared.record.Record.{Record}
use Rattle.log_records.specs.Image.{with_record}
use Rattle.log_records.specs.Log.{IsPageCount}
use Rattle.buffer_pool.specs.Frames.{fetched, given_up, is_resident}
use Rattle.buffer_pool.specs.Pool.{is_clean}
use Rattle.buffer_pool.proofs.Public.{fetched_free, fetched_given_up, full_if, length_less}
use Rattle.buffer_pool.proofs.Public.{numbers_later}
use Rattle.engine_calls.specs.declared.event.Answer.{Answer}
use Rattle.engine_calls.specs.declared.event.Event.{Event}
use Rattle.engine_calls.specs.declared.refusal.Refusal.{Refusal}
use Rattle.engine_rules.specs.EngineState.{EngineState, IsFit, end_ckpt_record, extend_record}
use Rattle.engine_rules.specs.EngineState.{new_state, stored_page, with_page, volume_pages}
use Rattle.engine_calls.specs.EventFits.{EventFits}
use Rattle.engine_rules.specs.Refusal.{frame_refusal}
use Rattle.engine_rules.specs.Run.{Run}
use Rattle.engine_rules.specs.Step.{Step}
use Rattle.engine_rules.proofs.Fit.{fit_of_step, new_is_fit}
use Rattle.engine_rules.proofs.Runs.{frames_of_run}
use Rattle.engine_rules.proofs.PageComes.{needed_within, number_is}
use Rattle.engine_rules.proofs.Refusals.{frame_passes, needed_passes}
use Rattle.engine_rules.proofs.Moves.{Adds, Completes, Extends, Fetched, Here, Keeps, Moves, Start}
use Rattle.engine_rules.proofs.Moves.{moves}
use Rattle.engine_rules.proofs.Steps.{rest_memory, step_leaves}

pub record AreFramed (frames : ℕ) (pages : List Page) : Type 0 where
  pub few : length pages ≤ frames
  pub distinct : IsDistinct nat_eq (map (λ page. page.number) pages)

-- ---- the pages without the one that is given up

rest_less : (P : ℕ → Type 0) (clean : ℕ → Bool) (pages : List Page)
    → AllByRecursion P (map (λ page. page.number) pages)
    → AllByRecursion P (map (λ page. page.number) (given_up clean pages))
rest_less P clean [] all = all
rest_less P clean (page ∷ pages) all = here (clean page.number) (rest_less P clean pages all.1)
  where
    here : (b : Bool) → AllByRecursion P (map (λ page. page.number) (given_up clean pages))
        → AllByRecursion P (map (λ page. page.number) (cond b pages (page ∷ given_up clean pages)))
    here true less = all.1
    here false less = (all.0, less)

distinct_less : (clean : ℕ → Bool) (pages : List Page) → IsDistinct nat_eq (map (λ page. page.number) pages)
    → IsDistinct nat_eq (map (λ page. page.number) (given_up clean pages))
unfolding IsDistinct
distinct_less clean [] distinct = distinct
distinct_less clean (page ∷ pages) distinct =
    here (clean page.number) (rest_less (λ n. nat_eq page.number n ≡ false) clean pages distinct.0)
    (distinct_less clean pages distinct.1)
  where
    here : (b : Bool)
        → AllByRecursion (λ n. nat_eq page.number n ≡ false) (map (λ page. page.number) (given_up clean pages))
        → IsDistinct nat_eq (map (λ page. page.number) (given_up clean pages))
        → IsDistinct nat_eq (map (λ page. page.number) (cond b pages (page ∷ given_up clean pages)))
    here true apart less = distinct.1
    here false apart less = (apart, less)

-- a page that was not there is not there then
absent_less : (clean : ℕ → Bool) (pages : List Page) (n : ℕ) → is_resident pages n ≡ false
    → is_resident (given_up clean pages) n ≡ false
absent_less clean [] n absent = absent
absent_less clean (page ∷ pages) n absent =
    here (page.number == n) refl (clean page.number) absent (absent_less clean pages n)
  where
    here : (a : Bool) → (page.number == n) ≡ a → (b : Bool) → (a || is_resident pages n) ≡ false
        → (is_resident pages n ≡ false → is_resident (given_up clean pages) n ≡ false)
        → is_resident (cond b pages (page ∷ given_up clean pages)) n ≡ false
    here true same b none rest = absurd (cc)
    here false other true none rest = none
    here false other false none rest =
        ap (λ (x : Bool). x || is_resident (given_up clean pages) n) other ∙ rest none

-- ---- a page more

any_number : (pages : List Page) (n : ℕ) → is_resident pages n ≡ false
    → list_any (nat_eq n) (map (λ page. page.number) pages) ≡ false
any_number [] n absent = refl
any_number (page ∷ pages) n absent = here (page.number == n) refl absent (any_number pages n)
  where
    here : (a : Bool) → (page.number == n) ≡ a → (a || is_resident pages n) ≡ false
        → (is_resident pages n ≡ false → list_any (nat_eq n) (map (λ page. page.number) pages) ≡ false)
        → (nat_eq n page.number || list_any (nat_eq n) (map (λ page. page.number) pages)) ≡ false
    here true same none rest = absurd (cc)
    here false other none rest =
        ap (λ (x : Bool). x || list_any (nat_eq n) (map (λ page. page.number) pages))
        (nat_eq_equiv.symm n page.number ∙ other) ∙ rest none

pub framed_push : (frames : ℕ) (pages : List Page) (page : Page) → length pages + 1 ≤ frames
    → IsDistinct nat_eq (map (λ page. page.number) pages) → is_resident pages page.number ≡ false
    → AreFramed frames (pages ++ page ∷ [])
framed_push frames pages page few distinct absent = record {
  few = omega (arith, length_push pages page);
  distinct = subst (IsDistinct nat_eq) (sym (map-append (λ (page : Page). page.number) pages (page ∷ [])))
      (IsDistinct-push nat_eq_equiv (map (λ page. page.number) pages) page.number distinct
      (any_number pages page.number absent));
}

-- ---- the page that a call needs

page_framed : (s : EngineState) (p : ℕ) → IsFit s → p < volume_pages s → frame_refusal s p ≡ None
    → AreFramed s.frames s.resident → AreFramed s.frames (with_page s p).resident
page_framed s p fit within none framed = by_test (is_resident s.resident p) refl
  where
    clean : ℕ → Bool
    clean = is_clean s.log s.written

    page : Page
    page = stored_page s p

    free : is_resident s.resident p ≡ false → length s.resident < s.frames
        → AreFramed s.frames (fetched s.frames clean s.resident page)
    free absent few =
        subst (AreFramed s.frames) (sym (fetched_free s.frames clean s.resident page few))
        (framed_push s.frames s.resident page (omega arith) framed.distinct
        (ap (is_resident s.resident) (number_is s p fit within absent) ∙ absent))

    full : is_resident s.resident p ≡ false → s.frames ≤ length s.resident
        → AreFramed s.frames (fetched s.frames clean s.resident page)
    full absent many =
        let some : list_any (λ q. clean q.number) s.resident ≡ true =
        not-false (list_any (λ q. clean q.number) s.resident)
        (sym (full_if s.frames clean s.resident many) ∙ frame_passes s p none absent) in
        let less = length_less clean s.resident some in
        let few = framed.few in
        subst (AreFramed s.frames) (sym (fetched_given_up s.frames clean s.resident page many))
        (framed_push s.frames (given_up clean s.resident) page (omega arith)
        (distinct_less clean s.resident framed.distinct)
        (absent_less clean s.resident page.number
        (ap (is_resident s.resident) (number_is s p fit within absent) ∙ absent)))

    by_test : (b : Bool) → is_resident s.resident p ≡ b
        → AreFramed s.frames (cond b s.resident (fetched s.frames clean s.resident page))
    by_test true there = framed
    by_test false absent = elim (cases_lt (length s.resident) s.frames) [
      | inl few ↦ free absent few
      | inr many ↦ full absent many
    ]

start_framed : (old : EngineState) (pages : List Page) (event : Event) → IsFit old → Start old event pages
    → AreFramed old.frames old.resident → AreFramed old.frames pages
start_framed old pages event fit Here framed = framed
start_framed old pages event fit (Fetched p none needs) framed =
    page_framed old p fit
    (subst (λ (o : Option ℕ). IfSome o (λ q. q < volume_pages old)) needs (needed_within old event fit none))
    (subst (λ (o : Option ℕ). IfSome o (λ q. frame_refusal old q ≡ None)) needs (needed_passes old event none)) framed

-- ---- a step, and a run

changed : (frames : ℕ) (pages : List Page) (r : Record) → AreFramed frames pages
    → AreFramed frames (map (λ page. with_record page r) pages)
changed frames pages r framed = record {
  few = let few = framed.few in omega (arith, length-map pages (λ page. with_record page r));
  distinct = subst (IsDistinct nat_eq) (sym (numbers_later pages r)) framed.distinct;
}

moves_framed : (old : EngineState) (event : Event) (reply : Result Answer Refusal) (new : EngineState) → IsFit old
    → Moves old event reply new → AreFramed old.frames old.resident → AreFramed old.frames new.resident
moves_framed old event reply new fit (Keeps start unseen rest) framed =
    subst (AreFramed old.frames) (sym (rest_memory event reply _ new rest))
    (start_framed old _ event fit start framed)
moves_framed old event reply new fit (Adds r start makes stays needs shown rest) framed =
    subst (AreFramed old.frames) (sym (rest_memory event reply _ new rest))
    (changed old.frames _ r (start_framed old _ event fit start framed))
moves_framed old event reply new fit (Completes passes ckpt masters stays unseen) framed =
    changed old.frames old.resident (end_ckpt_record old passes.ckpt) framed
moves_framed old event reply new fit (Extends count none grows begins writes shown) framed =
    changed old.frames old.resident (extend_record old count) framed

framed_step : (old : EngineState) (event : Event) (reply : Result Answer Refusal) (new : EngineState) → IsFit old
    → Step old event reply new → AreFramed old.frames old.resident → AreFramed new.frames new.resident
framed_step old event reply new fit step framed =
    subst (λ n. AreFramed n new.resident) (sym (step_leaves old event reply new step).frames)
    (moves_framed old event reply new fit (moves old event reply new step) framed)

framed_run : (old : EngineState) (events : List Event) (replies : List (Result Answer Refusal)) (new : EngineState)
    → IsFit old → All EventFits events → Run old events replies new → AreFramed old.frames old.resident
    → AreFramed new.frames new.resident
framed_run old [] [] new fit numbers is framed =
    subst (λ (s : EngineState). AreFramed s.frames s.resident) (sym is) framed
framed_run old (event ∷ events) (reply ∷ replies) new fit numbers run framed =
    framed_run run.0 events replies new
    (fit_of_step old event reply run.0 fit (All-head EventFits event events numbers) run.1)
    (All-tail EventFits event events numbers) run.2 (framed_step old event reply run.0 fit run.1 framed)
framed_run old [] (reply ∷ replies) new fit numbers run framed = absurd run
framed_run old (event ∷ events) [] new fit numbers run framed = absurd run

none_framed : (frames : ℕ) → AreFramed frames []
unfolding IsDistinct
none_framed frames = record { few = omega arith; distinct = tt }

pub framed_of_run : (pages frames : ℕ) (events : List Event) (replies : List (Result Answer Refusal))
    (new : EngineState) → IsPageCount pages → All EventFits events → Run (new_state pages frames) events replies new
    → AreFramed frames new.resident
framed_of_run pages frames events replies new count numbers run =
    subst (λ n. AreFramed n new.resident) (frames_of_run (new_state pages frames) events replies new run)
    (framed_run (new_state pages frames) events replies new (new_is_fit pages frames count) numbers run
    (none_framed frames))
