-- The decisions of a copy that holds a mark a page.
use Rattle.std.proofs.Common.{◌+◌, ◌≡◌, ◌≢◌, ℕ, ◌-◌, ◌^◌, ◌<◌, ◌≤◌, List, [], ◌∷◌, ◌++◌, length, get_or}
use Rattle.std.proofs.Common.{replicate, refl, sym, ap, ◌∙◌, subst, arith, suc, zero, inl, inr}
use Rattle.std.specs.Prelude.{slice_set}
use Rattle.std.proofs.Math.ListN.{get_or-map}
use Rattle.std.proofs.lemmas.Bool.{cases_lt}
use Rattle.std.proofs.lemmas.Grind.{get_or-set_at}
use Rattle.std.proofs.lemmas.List.{get_or-set_other, get_or_append_left, get_or_past, get_or_push, get_or-replicate}
use Rattle.std.proofs.lemmas.List.{length-map, length-replicate, length-set, length_push, map-set}
use Rattle.page_core.specs.declared.page.Page.{Page}
use Rattle.page_core.specs.Page.{formatted}
use Rattle.page_decisions.specs.declared.slots.PlacedDecision.{PlacedDecision}
use Rattle.page_decisions.specs.declared.slots.PlacedDecision.TheVariants.{Undecided, Taken, Kept}
use Rattle.page_decisions.specs.Decisions.{PageDecision, undecided, taken, kept, decision_at, page_of, taken_count}
use Rattle.page_decisions.specs.Decisions.{undecided_count}
use Rattle.page_decisions.specs.Slots.{AreInPlaceBy, AreTaken, AreWithin, IsMarked, decision_by, decisions_by}
use Rattle.page_decisions.proofs.Decisions.{count_none, count_set, count_within, left_none, left_set, map-replicate}

not_taken : (page : Page) → ¬ (undecided ≡ taken page)
not_taken page e = cc

-- ---- pages that come behind change no mark's meaning

head_same : (pages more : List Page) (m : PlacedDecision) → ((k : ℕ) → m ≡ Taken k → k < length pages)
    → decision_by (pages ++ more) m ≡ decision_by pages m
head_same pages more Undecided within = refl
head_same pages more (Taken k) within = ap taken (get_or_append_left pages more (formatted 0) k (within k refl))
head_same pages more Kept within = refl

same_more : (pages more : List Page) (marks : List PlacedDecision) → AreWithin (length pages) marks
    → decisions_by (pages ++ more) marks ≡ decisions_by pages marks
same_more pages more [] within = refl
same_more pages more (m ∷ ms) within =
    ap (λ (d : PageDecision). d ∷ decisions_by (pages ++ more) ms) (head_same pages more m (λ k e. within 0 k e))
    ∙ ap (λ (ds : List PageDecision). decision_by pages m ∷ ds)
    (same_more pages more ms (λ p k e. within (suc p) k e))

-- ---- a mark that is set

within_set : (marks : List PlacedDecision) (p : ℕ) (m : PlacedDecision) (old end : ℕ) → AreWithin old marks → old ≤ end
    → p < length marks → ((k : ℕ) → m ≡ Taken k → k < end) → AreWithin end (slice_set marks p m)
within_set marks p m old end within le lt here q k e = elim (cases_lt q p) [
  | inl below ↦ other (omega arith)
  | inr above ↦ elim (cases_lt p q) [
    | inl past ↦ other (omega arith)
    | inr same ↦ here k (sym (get_or-set_at marks p q m Undecided (omega arith) lt) ∙ e)
  ]
]
  where
    other : q ≢ p → k < end
    other ne = let lower = within q k (sym (get_or-set_other marks p q m Undecided ne) ∙ e) in omega arith

placed_set : (pages more : List Page) (marks : List PlacedDecision) (p : ℕ) (m : PlacedDecision) → AreWithin (length pages) marks
    → AreInPlaceBy pages marks → p < length marks
    → ((k : ℕ) (d : Page) → m ≡ Taken k → (get_or (pages ++ more) k d).number ≡ p)
    → AreInPlaceBy (pages ++ more) (slice_set marks p m)
placed_set pages more marks p m within placed lt here q k d e = elim (cases_lt q p) [
  | inl below ↦ other (omega arith)
  | inr above ↦ elim (cases_lt p q) [
    | inl past ↦ other (omega arith)
    | inr same ↦ let at : q ≡ p = omega arith in
        here k d (sym (get_or-set_at marks p q m Undecided at lt) ∙ e) ∙ sym at
  ]
]
  where
    other : q ≢ p → (get_or (pages ++ more) k d).number ≡ q
    other ne =
        let was = sym (get_or-set_other marks p q m Undecided ne) ∙ e in
        ap (λ (page : Page). page.number) (get_or_append_left pages more d k (within q k was)) ∙ placed q k d was

-- ---- the pages that were taken

stands_one : (ds : List PageDecision) (p : ℕ) (dec : PageDecision) (page : Page) → decision_at ds p ≡ undecided
    → decision_at ds page.number ≡ taken page → decision_at (slice_set ds p dec) page.number ≡ taken page
stands_one ds p dec page none here =
    let ne : page.number ≢ p = λ same. not_taken page (sym none ∙ ap (decision_at ds) (sym same) ∙ here) in
    get_or-set_other ds p page.number dec undecided ne ∙ here

stands_take : (pages : List Page) (ds : List PageDecision) (p : ℕ) (x : Page) → AreTaken pages ds → p < length ds
    → decision_at ds p ≡ undecided → x.number ≡ p → AreTaken (pages ++ x ∷ []) (slice_set ds p (taken x))
stands_take pages ds p x stands lt none place k d below = elim (cases_lt k (length pages)) [
  | inl before ↦ subst (λ (y : Page). decision_at (slice_set ds p (taken x)) y.number ≡ taken y)
      (sym (get_or_append_left pages (x ∷ []) d k before))
      (stands_one ds p (taken x) (get_or pages k d) none (stands k d before))
  | inr past ↦ subst (λ (y : Page). decision_at (slice_set ds p (taken x)) y.number ≡ taken y)
      (sym (get_or_push pages x d k (omega (arith, length_push pages x))))
      (get_or-set_at ds p x.number (taken x) undecided place lt)
]

pub decisions_take : (pages : List Page) (marks : List PlacedDecision) (p : ℕ) (x : Page) → AreWithin (length pages) marks
    → decisions_by (pages ++ x ∷ []) (slice_set marks p (Taken (length pages)))
    ≡ slice_set (decisions_by pages marks) p (taken x)
decisions_take pages marks p x within =
    map-set (decision_by (pages ++ x ∷ [])) marks p (Taken (length pages))
    ∙ ap (λ (ds : List PageDecision). slice_set ds p (decision_by (pages ++ x ∷ []) (Taken (length pages))))
    (same_more pages (x ∷ []) marks within)
    ∙ ap (λ (y : Page). slice_set (decisions_by pages marks) p (taken y))
    (get_or_push pages x (formatted 0) (length pages) refl)

pub marked_take : (marks : List PlacedDecision) (pages : List Page) (left room p : ℕ) (x : Page) → IsMarked marks pages left room
    → p < length (decisions_by pages marks) → decision_at (decisions_by pages marks) p ≡ undecided → x.number ≡ p
    → IsMarked (slice_set marks p (Taken (length pages))) (pages ++ x ∷ []) (left - 1) room
marked_take marks pages left room p x old lt none place =
    let ds = decisions_by pages marks in
    let m = Taken (length pages) in
    let is = decisions_take pages marks p x old.within in
    let count : length ds ≡ length marks = length-map marks (decision_by pages) in
    let below : p < length marks = omega arith in
    record {
      few = omega (arith, old.few, length-set marks p m);
      left_is = omega (arith, old.left_is, left_set ds p (taken x) lt none refl, ap undecided_count is);
      counted = omega (arith, old.counted, length_push pages x, count_set ds p (taken x) lt none, ap taken_count is);
      within = within_set marks p m (length pages) (length (pages ++ x ∷ [])) old.within
          (omega (arith, length_push pages x)) below (λ k e. named k e);
      placed = placed_set pages (x ∷ []) marks p m old.within old.placed below (λ k d e.
          ap (λ (y : Page). y.number) (get_or_push pages x d k (same_mark (length pages) k e)) ∙ place);
      stands = subst (AreTaken (pages ++ x ∷ [])) (sym is) (stands_take pages ds p x old.stands lt none place);
      fits = omega (arith, old.fits, length-set marks p m);
    }
  where
    same_mark : (a b : ℕ) → Taken a ≡ Taken b → a ≡ b
    same_mark a b e = cc

    named : (k : ℕ) → Taken (length pages) ≡ Taken k → k < length (pages ++ x ∷ [])
    named k e = let same = same_mark (length pages) k e in omega (arith, length_push pages x, same)

not_kept : (k : ℕ) → ¬ (Kept ≡ Taken k)
not_kept k e = cc

pub decisions_keep : (pages : List Page) (marks : List PlacedDecision) (p : ℕ)
    → decisions_by pages (slice_set marks p Kept) ≡ slice_set (decisions_by pages marks) p kept
decisions_keep pages marks p = map-set (decision_by pages) marks p Kept

pub marked_keep : (marks : List PlacedDecision) (pages : List Page) (left room p : ℕ) → IsMarked marks pages left room
    → p < length (decisions_by pages marks) → decision_at (decisions_by pages marks) p ≡ undecided
    → IsMarked (slice_set marks p Kept) pages (left - 1) room
marked_keep marks pages left room p old lt none =
    let ds = decisions_by pages marks in
    let is = decisions_keep pages marks p in
    let count : length ds ≡ length marks = length-map marks (decision_by pages) in
    let below : p < length marks = omega arith in
    record {
      few = omega (arith, old.few, length-set marks p Kept);
      left_is = omega (arith, old.left_is, left_set ds p kept lt none refl, ap undecided_count is);
      counted = omega (arith, old.counted, count_set ds p kept lt none, ap taken_count is);
      within = within_set marks p Kept (length pages) (length pages) old.within (omega arith) below
          (λ k e. absurd (not_kept k e));
      placed = placed_keep below;
      stands = subst (AreTaken pages) (sym is)
          (λ k d here. stands_one ds p kept (get_or pages k d) none (old.stands k d here));
      fits = omega (arith, old.fits, length-set marks p Kept);
    }
  where
    placed_keep : p < length marks → AreInPlaceBy pages (slice_set marks p Kept)
    placed_keep below q k d e = elim (cases_lt q p) [
      | inl before ↦ other (omega arith)
      | inr above ↦ elim (cases_lt p q) [
        | inl past ↦ other (omega arith)
        | inr same ↦ absurd (not_kept k (sym (get_or-set_at marks p q Kept Undecided (omega arith) below) ∙ e))
      ]
    ]
      where
        other : q ≢ p → (get_or pages k d).number ≡ q
        other ne = old.placed q k d (sym (get_or-set_other marks p q Kept Undecided ne) ∙ e)

-- there is room for a page more, and its number fits
pub place_left : (marks : List PlacedDecision) (pages : List Page) (left room p : ℕ) → IsMarked marks pages left room
    → p < length (decisions_by pages marks) → decision_at (decisions_by pages marks) p ≡ undecided
    → length pages < length marks
place_left marks pages left room p old lt none =
    let ds = decisions_by pages marks in
    let more = slice_set ds p (taken (formatted 0)) in
    omega (
      arith,
      old.counted,
      count_set ds p (taken (formatted 0)) lt none,
      count_within more,
      length-set ds p (taken (formatted 0)),
      length-map marks (decision_by pages),
    )

pub some_left : (marks : List PlacedDecision) (pages : List Page) (left room p : ℕ) → IsMarked marks pages left room
    → p < length (decisions_by pages marks) → decision_at (decisions_by pages marks) p ≡ undecided → 1 ≤ left
some_left marks pages left room p old lt none =
    omega (arith, old.left_is, left_set (decisions_by pages marks) p kept lt none refl)

-- ---- nothing is decided

pub none_marked : (n : ℕ) → decisions_by [] (replicate n Undecided) ≡ replicate n undecided
none_marked n = map-replicate (decision_by []) n Undecided

no_mark : (n p k : ℕ) → ¬ (get_or (replicate n Undecided) p Undecided ≡ Taken k)
no_mark n p k e = elim (cases_lt p n) [
  | inl lt ↦ not_named k (sym (get_or-replicate n p Undecided Undecided lt) ∙ e)
  | inr past ↦ not_named k
      (sym (get_or_past (replicate n Undecided) p Undecided (omega (arith, length-replicate n Undecided))) ∙ e)
]
  where
    not_named : (k : ℕ) → ¬ (Undecided ≡ Taken k)
    not_named k e = cc

pub marked_none : (n room : ℕ) → n + 2 < 2 ^ 32 → n ≤ room → IsMarked (replicate n Undecided) [] n room
marked_none n room few fits = record {
  few = omega (arith, few, length-replicate n Undecided);
  left_is = sym (ap undecided_count (none_marked n) ∙ left_none n);
  counted = sym (ap taken_count (none_marked n) ∙ count_none n);
  within = λ p k e. absurd (no_mark n p k e);
  placed = λ p k d e. absurd (no_mark n p k e);
  stands = λ k d lt. absurd (omega arith);
  fits = omega (arith, fits, length-replicate n Undecided);
}

-- ---- a page that was taken stands in the list

pub mark_read : (pages : List Page) (marks : List PlacedDecision) (p : ℕ)
    → decision_at (decisions_by pages marks) p ≡ decision_by pages (get_or marks p Undecided)
mark_read pages marks p = get_or-map (decision_by pages) marks p Undecided

same_default : {X : Type 0} (xs : List X) (n : ℕ) (a b : X) → n < length xs → get_or xs n a ≡ get_or xs n b
same_default [] n a b lt = absurd (omega arith)
same_default (x ∷ xs) zero a b lt = refl
same_default (x ∷ xs) (suc n) a b lt = same_default xs n a b (omega arith)

-- the mark that stands there
pub mark_is : (pages : List Page) (marks : List PlacedDecision) (n k : ℕ) (m : PlacedDecision) → n < length (decisions_by pages marks)
    → m ≡ get_or marks n m → m ≡ Taken k → get_or marks n Undecided ≡ Taken k
mark_is pages marks n k m lt at is =
    same_default marks n Undecided m (omega (arith, length-map marks (decision_by pages))) ∙ sym at ∙ is

pub page_read : (pages : List Page) (marks : List PlacedDecision) (n k : ℕ) (page d : Page) → k < length pages
    → get_or marks n Undecided ≡ Taken k → page ≡ get_or pages k d
    → page ∷ [] ≡ page_of (decision_at (decisions_by pages marks) n)
page_read pages marks n k page d lt at is =
    ap (λ (x : Page). x ∷ []) (is ∙ same_default pages k d (formatted 0) lt)
    ∙ sym (ap page_of (mark_read pages marks n ∙ ap (decision_by pages) at))

pub marked_all : (marks : List PlacedDecision) (pages : List Page) (left room p : ℕ) (page : Page)
    → IsMarked marks pages left room
    → decision_at (decisions_by pages marks) p ≡ taken page
    → (k : ℕ) × (k < length pages) × ((d : Page) → (get_or pages k d).number ≡ p)
marked_all marks pages left room p page old e = named (get_or marks p Undecided) refl
    (sym (mark_read pages marks p) ∙ e)
  where
    named : (m : PlacedDecision) → get_or marks p Undecided ≡ m → decision_by pages m ≡ taken page
        → (k : ℕ) × (k < length pages) × ((d : Page) → (get_or pages k d).number ≡ p)
    named Undecided is e = absurd (not_taken page e)
    named (Taken k) is e = (k, old.within p k is, λ d. old.placed p k d is)
    named Kept is e = absurd (kept_not_taken e)
      where
        kept_not_taken : ¬ (kept ≡ taken page)
        kept_not_taken e = cc
