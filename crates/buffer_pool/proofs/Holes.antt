-- Slots that become holes, and holes that are squeezed out.
use Rattle.std.proofs.Common.{◌≡◌, ℕ, zero, suc, ◌+◌, ◌<◌, ◌≤◌, Bool, true, false, cond, ◌||◌, List, [], ◌∷◌, ◌++◌}
use Rattle.std.proofs.Common.{◌-◌, ◌*◌, length, get_or, map, set, refl, sym, ap, ◌∙◌, arith, inl, inr}
use Rattle.std.specs.Prelude.{◌==◌, Option, Some, None, IsSome, is_some, position, nat_lt}
use Rattle.std.specs.List.{filter, list_any, position_or_len}
use Rattle.std.specs.Option.{option_map_or}
use Rattle.std.proofs.lemmas.Bool.{ltb-false}
use Rattle.std.proofs.lemmas.List.{append-nil, length-map, length-set, length_push}
use Rattle.std.proofs.lemmas.List.Elements.{filter_map-append}
use Rattle.std.proofs.lemmas.List.Folds.{list_any_at, list_any_none}
use Rattle.std.proofs.lemmas.List.Quantifiers.{position-Some}
use Rattle.std.proofs.lemmas.List.Sums.{fails_before_first}
use Rattle.page_core.specs.declared.page.Page.{Page}
use Rattle.buffer_pool.specs.Frames.{given_up, is_resident}
use Rattle.buffer_pool.specs.Marks.{has_clean}
use Rattle.buffer_pool.specs.Slots.{AreCounted, IsTrimmed, pages_in}

-- ---- a page less

-- its slot is a hole now
pub given_up_at : (clean : ℕ → Bool) (slots : List (Option Page)) (i : ℕ) (d : Option Page) → i < length slots
    → has_clean clean (get_or slots i d) ≡ true
    → ((k : ℕ) → k < i → has_clean clean (get_or slots k d) ≡ false)
    → given_up clean (pages_in slots) ≡ pages_in (set slots i None)
given_up_at clean [] i d there here before = absurd (omega arith)
given_up_at clean (None ∷ slots) zero d there here before = absurd (cc)
given_up_at clean (Some page ∷ slots) zero d there here before =
    ap (λ (b : Bool). cond b (pages_in slots) (page ∷ given_up clean (pages_in slots))) here
given_up_at clean (None ∷ slots) (suc i) d there here before =
    given_up_at clean slots i d (omega arith) here (λ k lt. before (suc k) (omega arith))
given_up_at clean (Some page ∷ slots) (suc i) d there here before =
    ap (λ (b : Bool). cond b (pages_in slots) (page ∷ given_up clean (pages_in slots))) (before 0 (omega arith))
    ∙ ap (λ (qs : List Page). page ∷ qs)
    (given_up_at clean slots i d (omega arith) here (λ k lt. before (suc k) (omega arith)))

pub given_up_found : (clean : ℕ → Bool) (slots : List (Option Page)) (i : ℕ)
    → position (has_clean clean) slots ≡ Some i → given_up clean (pages_in slots) ≡ pages_in (set slots i None)
given_up_found clean [] i found = absurd (cc)
given_up_found clean (slot ∷ slots) i found =
    let is = position-Some (has_clean clean) (slot ∷ slots) i slot found in
    given_up_at clean (slot ∷ slots) i slot is.0 is.1 is.2

-- a slot that has a clean page has a page
pub clean_is_page : (clean : ℕ → Bool) (slot : Option Page) → has_clean clean slot ≡ true → IsSome slot
clean_is_page clean None is = absurd (cc)
clean_is_page clean (Some page) is = refl

-- where none is clean, none is given up
pub given_up_none : (clean : ℕ → Bool) (pages : List Page) → list_any (λ page. clean page.number) pages ≡ false
    → given_up clean pages ≡ pages
given_up_none clean [] none = refl
given_up_none clean (page ∷ pages) none = here (clean page.number) none (given_up_none clean pages)
  where
    here : (b : Bool) → (b || list_any (λ page. clean page.number) pages) ≡ false
        → (list_any (λ page. clean page.number) pages ≡ false → given_up clean pages ≡ pages)
        → cond b pages (page ∷ given_up clean pages) ≡ page ∷ pages
    here true none rest = absurd (cc)
    here false none rest = ap (λ (qs : List Page). page ∷ qs) (rest none)

-- a slot has a clean page just where a page is clean
pub any_clean : (clean : ℕ → Bool) (slots : List (Option Page))
    → list_any (has_clean clean) slots ≡ list_any (λ page. clean page.number) (pages_in slots)
any_clean clean [] = refl
any_clean clean (None ∷ slots) = any_clean clean slots
any_clean clean (Some page ∷ slots) = ap (λ (b : Bool). clean page.number || b) (any_clean clean slots)

-- no place is found just where none is clean
pub none_found : {X : Type 0} (p : X → Bool) (xs : List X) → position p xs ≡ None → list_any p xs ≡ false
none_found p xs none = list_any_none p xs (λ k d lt.
    fails_before_first p xs k d (omega (arith, ltb-false (position_or_len p xs) (length xs) (lost none))))
  where
    lost_by : (b : Bool) → cond b (Some (position_or_len p xs)) None ≡ None → b ≡ false
    lost_by true e = absurd (cc)
    lost_by false e = refl

    lost : position p xs ≡ None → nat_lt (position_or_len p xs) (length xs) ≡ false
    lost e = lost_by (nat_lt (position_or_len p xs) (length xs)) e

pub some_found : {X : Type 0} (p : X → Bool) (xs : List X) (i : ℕ) → position p xs ≡ Some i → list_any p xs ≡ true
some_found p [] i found = absurd (cc)
some_found p (x ∷ xs) i found =
    let is = position-Some p (x ∷ xs) i x found in
    list_any_at p (x ∷ xs) i x is.0 is.1

-- so one is found just where one is clean
pub any_found : {X : Type 0} (p : X → Bool) (xs : List X) → is_some (position p xs) ≡ list_any p xs
any_found p xs = by (position p xs) refl
  where
    by : (r : Option ℕ) → position p xs ≡ r → is_some (position p xs) ≡ list_any p xs
    by None is = ap is_some is ∙ sym (none_found p xs is)
    by (Some i) is = ap is_some is ∙ sym (some_found p xs i is)

-- the slot that is found has a page
pub found_page : (clean : ℕ → Bool) (slots : List (Option Page)) (i : ℕ) (d : Option Page)
    → position (has_clean clean) slots ≡ Some i → IsSome (get_or slots i d)
found_page clean slots i d found =
    clean_is_page clean (get_or slots i d) (position-Some (has_clean clean) slots i d found).1

-- a page less among them
pub pages_less : (slots : List (Option Page)) (i : ℕ) → IsSome (get_or slots i None)
    → length (pages_in (set slots i None)) + 1 ≡ length (pages_in slots)
pages_less [] i some = absurd (cc)
pages_less (None ∷ slots) zero some = absurd (cc)
pages_less (Some page ∷ slots) zero some = omega arith
pages_less (None ∷ slots) (suc i) some = pages_less slots i some
pages_less (Some page ∷ slots) (suc i) some = let less = pages_less slots i some in omega (arith, less)

pub counted_less : (count : ℕ) (slots : List (Option Page)) (i : ℕ) → AreCounted count slots
    → IsSome (get_or slots i None) → length slots ≤ 2 * length (pages_in slots) - 1
    → AreCounted (count - 1) (set slots i None)
counted_less count slots i counted some few =
    let less = pages_less slots i some in
    record {
      pages = omega (arith, less, counted.pages);
      holes = omega (arith, less, few, length-set slots i None);
    }

-- ---- a page more

-- it comes behind the others
pub pages_more : (slots : List (Option Page)) (page : Page)
    → pages_in (slots ++ Some page ∷ []) ≡ pages_in slots ++ page ∷ []
pages_more slots page = filter_map-append (λ slot. slot) slots (Some page ∷ [])

pub counted_more : (count : ℕ) (slots : List (Option Page)) (page : Page) → AreCounted count slots
    → AreCounted (count + 1) (slots ++ Some page ∷ [])
counted_more count slots page counted =
    let more : length (pages_in (slots ++ Some page ∷ [])) ≡ length (pages_in slots) + 1 =
    ap (length {A = Page}) (pages_more slots page) ∙ length_push (pages_in slots) page in
    record {
      pages = omega (arith, more, counted.pages);
      holes = omega (arith, more, counted.holes, length_push slots (Some page));
    }

-- ---- the holes squeezed out

pub squeezed : (slots : List (Option Page)) → filter is_some slots ≡ map Some (pages_in slots)
squeezed [] = refl
squeezed (None ∷ slots) = squeezed slots
squeezed (Some page ∷ slots) = ap (λ (ss : List (Option Page)). Some page ∷ ss) (squeezed slots)

pub pages_squeezed : (pages : List Page) → pages_in (map Some pages) ≡ pages
pages_squeezed [] = refl
pages_squeezed (page ∷ pages) = ap (λ (qs : List Page). page ∷ qs) (pages_squeezed pages)

pub counted_squeezed : (count : ℕ) (slots : List (Option Page)) → AreCounted count slots
    → AreCounted count (map Some (pages_in slots))
counted_squeezed count slots counted =
    let pages = ap (length {A = Page}) (pages_squeezed (pages_in slots)) in
    record {
      pages = omega (arith, pages, counted.pages);
      holes = omega (arith, pages, length-map {B = Option Page} (pages_in slots) Some);
    }

-- ---- a hole that was the last, taken away

pub pages_trimmed : (old slots : List (Option Page)) → IsTrimmed old slots → pages_in slots ≡ pages_in old
pages_trimmed old slots (inl same) = ap pages_in same
pages_trimmed old slots (inr less) =
    sym (ap pages_in less ∙ filter_map-append (λ slot. slot) slots (None ∷ []) ∙ append-nil (pages_in slots))

pub length_trimmed : (old slots : List (Option Page)) → IsTrimmed old slots → length slots ≤ length old
length_trimmed old slots (inl same) = omega (arith, ap (length {A = Option Page}) same)
length_trimmed old slots (inr less) = omega (arith, ap (length {A = Option Page}) less, length_push slots None)

pub counted_trimmed : (count : ℕ) (old slots : List (Option Page)) → IsTrimmed old slots → AreCounted count old
    → AreCounted count slots
counted_trimmed count old slots less counted =
    let pages = ap (length {A = Page}) (pages_trimmed old slots less) in
    record {
      pages = omega (arith, pages, counted.pages);
      holes = omega (arith, pages, counted.holes, length_trimmed old slots less);
    }

-- ---- what is left

-- with more slots to spare there is more room
pub roomier : {X : Type 0} {a b : ℕ} (free : Option X) → a ≤ b
    → option_map_or (λ frame. a) free 0 ≤ option_map_or (λ frame. b) free 0
roomier None le = omega arith
roomier (Some frame) le = le

-- a page that is not there is not among fewer pages either
pub absent_less : (clean : ℕ → Bool) (pages : List Page) (n : ℕ) → is_resident pages n ≡ false
    → is_resident (given_up clean pages) n ≡ false
absent_less clean [] n absent = refl
absent_less clean (page ∷ pages) n absent = here (page.number == n) refl (clean page.number) absent (absent_less clean pages n)
  where
    here : (a : Bool) → (page.number == n) ≡ a → (b : Bool) → (a || is_resident pages n) ≡ false
        → (is_resident pages n ≡ false → is_resident (given_up clean pages) n ≡ false)
        → is_resident (cond b pages (page ∷ given_up clean pages)) n ≡ false
    here true same b absent rest = absurd (cc)
    here false other true absent rest = absent
    here false other false absent rest =
        ap (λ (x : Bool). x || is_resident (given_up clean pages) n) other ∙ rest absent
