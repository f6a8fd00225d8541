-- Pages in slots under their numbers, and how one is found.
use Rattle.std.proofs.Common.{◌≡◌, ◌≢◌, ℕ, zero, suc, ◌+◌, ◌<◌, ◌≤◌, Bool, true, false, cond, ◌||◌, List, [], ◌∷◌, ◌++◌}
use Rattle.std.proofs.Common.{◌*◌, ◌-◌, length, get_or, map, set, swap, refl, sym, ap, subst, ◌∙◌, arith, nat_eq, inl, inr, true≢false}
use Rattle.std.specs.Prelude.{◌==◌, Option, Some, None, IfSome, IsSome, is_some, option_to_list, position, slice_get}
use Rattle.std.specs.Cmp.{nat_eq_equiv}
use Rattle.std.specs.List.{All, Contains, IsDistinct, filter}
use Rattle.std.specs.Map.{keys_of, lookup, values_of}
use Rattle.std.specs.Option.{option_map, option_map_or}
use Rattle.std.proofs.lemmas.Bool.{cases_eq, eq-eqb, eqb-true, ne_eqb}
use Rattle.std.proofs.Math.Bool.{or-true}
use Rattle.std.proofs.lemmas.Option.{get_or_from_slice_get, none-some, same_Some, slice_get-get_or, slice_get_within}
use Rattle.std.proofs.lemmas.List.{get_or-map, get_or-set_other, get_or-set_same, get_or_append_left, get_or_default, get_or_push}
use Rattle.std.proofs.lemmas.List.{append-nil, length-append, length-map, length-set, length_push, map-append, map-set, same_lists}
use Rattle.std.proofs.lemmas.List.{set-append_left, set-get_or}
use Rattle.std.proofs.lemmas.List.Edits.{swap_is}
use Rattle.std.proofs.lemmas.List.Elements.{All-contains, All-filter, All-head, All-map, All-push, All-set, All-tail}
use Rattle.std.proofs.lemmas.List.Elements.{All-weaker, filter_passes}
use Rattle.std.proofs.lemmas.List.Quantifiers.{position-Some}
use Rattle.std.proofs.lemmas.Map.Entries.{length-keys_of, length-values_of}
use Rattle.std.proofs.lemmas.Map.Made.{IsDistinct-keys_filter}
use Rattle.std.proofs.lemmas.Map.Steps.{length-le_from_distinct_below}
use Rattle.indexmap.specs.IndexMap.{set_value_at}
use Rattle.indexmap.proofs.CallerLemmas.{Contains-list_any}
use Rattle.indexmap.proofs.MapLemmas.{index-first}
use Rattle.indexmap.proofs.RemoveLemmas.{own_first}
use Rattle.page_core.specs.declared.page.Page.{Page}
use Rattle.page_core.specs.declared.page.TheConstants.{MAX_PAGES}
use Rattle.page_core.specs.Page.{put}
use Rattle.log_records.specs.declared.page_change.PageChange.{PageChange}
use Rattle.log_records.specs.declared.record.Record.{Record}
use Rattle.log_records.specs.Image.{with_change, with_record}
use Rattle.log_records.specs.Record.{change_of, own_lsn}
use Rattle.log_records.proofs.Public.{number-with_record}
use Rattle.buffer_pool.specs.Frames.{is_resident}
use Rattle.buffer_pool.specs.Slots.{AreCounted, ArePageNumbers, AreUnderNumbers, IsPlace, IsTrimmed, IsUnder}
use Rattle.buffer_pool.specs.Slots.{IsUnderNumber, pages_in}

abbrev pub Entry : Type 0
Entry = ℕ × Option Page

-- the record redone on what stands in a slot
abbrev pub redone : Record → Option Page → Option Page
redone next slot = option_map (λ page. with_record page next) slot

-- ---- slots that have pages

within_some : {X : Type 0} (xs : List (Option X)) (k : ℕ) → IsSome (get_or xs k None) → k < length xs
within_some [] k some = absurd (cc)
within_some (x ∷ xs) zero some = omega arith
within_some (x ∷ xs) (suc k) some = let lt = within_some xs k some in omega (arith, lt)

-- the page of a slot is resident
pub resident_at : (slots : List (Option Page)) (k : ℕ) (page : Page) → get_or slots k None ≡ Some page
    → is_resident (pages_in slots) page.number ≡ true
resident_at [] k page at = absurd (cc)
resident_at (None ∷ slots) zero page at = absurd (cc)
resident_at (Some q ∷ slots) zero page at =
    ap (λ (b : Bool). b || is_resident (pages_in slots) page.number)
    (eq-eqb q.number page.number (ap (λ (x : Page). x.number) (same_Some q page at)))
resident_at (None ∷ slots) (suc k) page at = resident_at slots k page at
resident_at (Some q ∷ slots) (suc k) page at =
    ap (λ (b : Bool). (q.number == page.number) || b) (resident_at slots k page at)
    ∙ or-true (q.number == page.number)

-- and among the pages
pub among_at : (slots : List (Option Page)) (k : ℕ) (page : Page) → get_or slots k None ≡ Some page
    → Contains (pages_in slots) page
among_at [] k page at = absurd (cc)
among_at (None ∷ slots) zero page at = absurd (cc)
among_at (Some q ∷ slots) zero page at = (0, omega arith, same_Some q page at)
among_at (None ∷ slots) (suc k) page at = among_at slots k page at
among_at (Some q ∷ slots) (suc k) page at =
    let there = among_at slots k page at in (suc there.0, omega (arith, there.1), there.2)

-- where no slot has a page of the number, none is resident
pub absent_from : (n : ℕ) (slots : List (Option Page))
    → ((k : ℕ) (page : Page) → get_or slots k None ≡ Some page → page.number ≢ n)
    → is_resident (pages_in slots) n ≡ false
absent_from n [] none = refl
absent_from n (None ∷ slots) none = absent_from n slots (λ k page at. none (suc k) page at)
absent_from n (Some page ∷ slots) none =
    ap (λ (b : Bool). b || is_resident (pages_in slots) n) (ne_eqb page.number n (none 0 page refl))
    ∙ absent_from n slots (λ k page at. none (suc k) page at)

-- nor are there more pages than slots
pub pages_most : (slots : List (Option Page)) → length (pages_in slots) ≤ length slots
pages_most [] = omega arith
pages_most (None ∷ slots) = let le = pages_most slots in omega (arith, le)
pages_most (Some page ∷ slots) = let le = pages_most slots in omega (arith, le)

-- ---- entries

-- what stands in the slot of an entry
pub value_at : (es : List Entry) (i : ℕ) (e : Entry) → slice_get es i ≡ Some e → get_or (values_of es) i None ≡ e.1
value_at [] i e at = absurd (cc)
value_at (x ∷ es) zero e at = ap (λ (y : Entry). y.1) (same_Some x e at)
value_at (x ∷ es) (suc i) e at = value_at es i e at

-- a slot that is written
set_is : (es : List Entry) (i : ℕ) (e : Entry) (slot : Option Page) → slice_get es i ≡ Some e
    → set_value_at es i slot ≡ set es i (e.0, slot)
set_is [] i e slot at = refl
set_is (x ∷ es) zero e slot at = ap (λ (y : Entry). (y.0, slot) ∷ es) (same_Some x e at)
set_is (x ∷ es) (suc i) e slot at = ap (λ (ys : List Entry). x ∷ ys) (set_is es i e slot at)

pub values_set : (es : List Entry) (i : ℕ) (slot : Option Page)
    → values_of (set_value_at es i slot) ≡ set (values_of es) i slot
values_set [] i slot = refl
values_set (e ∷ es) zero slot = refl
values_set (e ∷ es) (suc i) slot = ap (λ (ss : List (Option Page)). e.1 ∷ ss) (values_set es i slot)

length-set_value : (es : List Entry) (i : ℕ) (slot : Option Page) → length (set_value_at es i slot) ≡ length es
length-set_value [] i slot = refl
length-set_value (e ∷ es) zero slot = refl
length-set_value (e ∷ es) (suc i) slot = ap suc (length-set_value es i slot)

-- the bound of all entries does not move
pub still_under : (es : List Entry) (i : ℕ) (slot : Option Page)
    → All (IsUnderNumber (MAX_PAGES + length es)) (set_value_at es i slot) → AreUnderNumbers (set_value_at es i slot)
still_under es i slot all =
    subst (λ (n : ℕ). All (IsUnderNumber (MAX_PAGES + n)) (set_value_at es i slot)) (sym (length-set_value es i slot)) all

under_set : (b : ℕ) (es : List Entry) (i : ℕ) (slot : Option Page) → i < length es → All (IsUnderNumber b) es
    → ((e : Entry) → slice_get es i ≡ Some e → IsUnderNumber b e → IsUnderNumber b (e.0, slot))
    → All (IsUnderNumber b) (set_value_at es i slot)
under_set b es i slot lt all here =
    let e = get_or es i (0, None) in
    let at = slice_get-get_or es i (0, None) lt in
    subst (All (IsUnderNumber b)) (sym (set_is es i e slot at))
    (All-set (IsUnderNumber b) es i (e.0, slot) (here e at (all i (0, None) lt)) all)

-- a page is taken out
pub under_less : (b : ℕ) (es : List Entry) (i : ℕ) (slot : Option Page) → IsSome (get_or (values_of es) i None)
    → slot ≡ None → All (IsUnderNumber b) es → All (IsUnderNumber b) (set_value_at es i slot)
under_less b es i slot some none all =
    let lt : i < length es = omega (arith, within_some (values_of es) i some, length-values_of es) in
    subst (λ (o : Option Page). All (IsUnderNumber b) (set_value_at es i o)) (sym none)
    (under_set b es i None lt all (λ e at under. record { below = under.below; own = tt }))

-- ---- a page in its place

-- the entry of a page
entry_at : (b : ℕ) (es : List Entry) (k : ℕ) (page : Page) → All (IsUnderNumber b) es
    → get_or (values_of es) k None ≡ Some page → slice_get es k ≡ Some (page.number, Some page)
entry_at b [] k page all at = absurd (cc)
entry_at b (e ∷ es) zero page all at =
    let own = subst (λ (o : Option Page). IfSome o (IsUnder e.0)) at (All-head (IsUnderNumber b) e es all).own in
    ap (λ (n : ℕ). Some (n, e.1)) (sym own.0) ∙ ap (λ (o : Option Page). Some (page.number, o)) at
entry_at b (e ∷ es) (suc k) page all at = entry_at b es k page (All-tail (IsUnderNumber b) e es all) at

-- what a search in the map says
pub sought : (ks : List ℕ) (i n : ℕ) (r s : Option ℕ) → i ≡ n → r ≡ position (nat_eq i) ks → r ≡ s
    → position (nat_eq n) ks ≡ s
sought ks i n r s same is says = ap (λ (m : ℕ). position (nat_eq m) ks) (sym same) ∙ sym is ∙ says

module _ (es : List Entry) (n : ℕ) (all : AreUnderNumbers es) (distinct : IsDistinct nat_eq (keys_of es)) where
  found_at : (k : ℕ) (page : Page) → get_or (values_of es) k None ≡ Some page → page.number ≡ n
      → position (nat_eq n) (keys_of es) ≡ Some k
  found_at k page at same =
      subst (λ (m : ℕ). position (nat_eq m) (keys_of es) ≡ Some k) same
      (index-first (nat_eq page.number) es k (own_first nat_eq nat_eq_equiv es k page.number (Some page) distinct
      (entry_at (MAX_PAGES + length es) es k page all at)))

  -- a page of a number that is not found is not there
  pub no_place : position (nat_eq n) (keys_of es) ≡ None → is_resident (pages_in (values_of es)) n ≡ false
  no_place none = absent_from n (values_of es) (λ k page at same. none-some k (sym none ∙ found_at k page at same))

  module _ (place : ℕ) (found : position (nat_eq n) (keys_of es) ≡ Some place) where
    -- one of a number that is found stands nowhere else
    pub only_there : (k : ℕ) (page : Page) → get_or (values_of es) k None ≡ Some page → page.number ≡ n → k ≡ place
    only_there k page at same = same_Some k place (sym (found_at k page at same) ∙ found)

    -- the number of the entry there
    key_there : (e : Entry) → slice_get es place ≡ Some e → e.0 ≡ n
    key_there e at =
        let is = position-Some (nat_eq n) (keys_of es) place e.0 found in
        sym (eqb-true n e.0 (ap (nat_eq n) (sym (get_or-map (λ (x : Entry). x.0) es place e e.0 (slice_get_within es place e at)
        ∙ ap (λ (x : Entry). x.0) (get_or_from_slice_get es place e e at))) ∙ is.1))

    number_there : (page : Page) → get_or (values_of es) place None ≡ Some page → page.number ≡ n
    number_there page at = key_there (page.number, Some page) (entry_at (MAX_PAGES + length es) es place page all at)

    pub place_found : (page : Page) → get_or (values_of es) place None ≡ Some page → IsPlace (values_of es) n place
    place_found page at = record { here = (page, (at, number_there page at)); only = only_there }

    -- nor is one whose place is a hole
    pub not_there : get_or (values_of es) place None ≡ None → is_resident (pages_in (values_of es)) n ≡ false
    not_there hole =
        absent_from n (values_of es) (λ k page at same.
        none-some page (sym hole ∙ ap (λ (i : ℕ). get_or (values_of es) i None) (sym (only_there k page at same)) ∙ at))

    -- where the page is not there, a hole has its number
    pub hole_found : is_resident (pages_in (values_of es)) n ≡ false → slice_get es place ≡ Some (n, None)
    hole_found absent =
        let lt = (position-Some (nat_eq n) (keys_of es) place 0 found).0 in
        let e = get_or es place (n, None) in
        let at = slice_get-get_or es place (n, None) (omega (arith, lt, length-keys_of es)) in
        at ∙ ap (λ (k : ℕ). Some (k, e.1)) (key_there e at)
        ∙ ap (λ (o : Option Page). Some (n, o)) (hole e.1 (value_at es place e at))
      where
        hole : (slot : Option Page) → get_or (values_of es) place None ≡ slot → slot ≡ None
        hole None is = refl
        hole (Some page) is =
            absurd (true≢false (sym (resident_at (values_of es) place page is)
            ∙ ap (is_resident (pages_in (values_of es))) (number_there page is) ∙ absent))

pub resident_there : (slots : List (Option Page)) (n place : ℕ) → IsPlace slots n place
    → is_resident (pages_in slots) n ≡ true
resident_there slots n place is =
    ap (is_resident (pages_in slots)) (sym is.here.1.1) ∙ resident_at slots place is.here.0 is.here.1.0

-- ---- entries without the holes

-- the entries that have pages
abbrev pub kept : List Entry → List Entry
kept es = filter (λ (e : Entry). is_some e.1) es

pub kept_slots : (es : List Entry) → values_of (kept es) ≡ map Some (pages_in (values_of es))
kept_slots [] = refl
kept_slots (e ∷ es) = by e.1 refl (kept_slots es)
  where
    by : (slot : Option Page) → e.1 ≡ slot → values_of (kept es) ≡ map Some (pages_in (values_of es))
        → values_of (kept (e ∷ es)) ≡ map Some (pages_in (e.1 ∷ values_of es))
    by None is rest =
        ap (λ (o : Option Page). values_of (cond (is_some o) (e ∷ kept es) (kept es))) is ∙ rest
        ∙ ap (λ (o : Option Page). map Some (pages_in (o ∷ values_of es))) (sym is)
    by (Some page) is rest =
        ap (λ (o : Option Page). values_of (cond (is_some o) (e ∷ kept es) (kept es))) is
        ∙ ap (λ (o : Option Page). o ∷ values_of (kept es)) is
        ∙ ap (λ (ss : List (Option Page)). Some page ∷ ss) rest
        ∙ ap (λ (o : Option Page). map Some (pages_in (o ∷ values_of es))) (sym is)

later : (a b : ℕ) (es : List Entry) → a ≤ b → All (IsUnderNumber a) es → All (IsUnderNumber b) es
later a b es le all =
    All-weaker (IsUnderNumber a) (IsUnderNumber b)
    (λ e under. record { below = omega (arith, under.below, le); own = under.own }) es all

-- a page comes behind them
pub under_with : (b : ℕ) (es : List Entry) (n : ℕ) (page : Page) → n ≡ page.number → page.number < MAX_PAGES
    → MAX_PAGES ≤ b → All (IsUnderNumber b) es → All (IsUnderNumber b) (es ++ (n, Some page) ∷ [])
under_with b es n page same low le all =
    All-push (IsUnderNumber b) es (n, Some page) all
    (record { below = omega (arith, same, low, le); own = (sym same, low) })

-- where no hole has a number past those of all pages
pub under_named : (es : List Entry) → ArePageNumbers es → AreUnderNumbers es
under_named es named = later MAX_PAGES (MAX_PAGES + length es) es (omega arith) named

module _ (es : List Entry) (all : AreUnderNumbers es) where
  pub kept_under : ArePageNumbers (kept es)
  kept_under = λ k d lt.
      let under = All-filter (λ (e : Entry). is_some e.1) (IsUnderNumber (MAX_PAGES + length es)) es all k d lt in
      let e = get_or (kept es) k d in
      record { below = by e.0 e.1 under.own (filter_passes (λ (x : Entry). is_some x.1) es k d lt); own = under.own }
    where
      by : (n : ℕ) (slot : Option Page) → IfSome slot (IsUnder n) → is_some slot ≡ true → n < MAX_PAGES
      by n None own is = absurd (cc)
      by n (Some page) own is = omega (arith, own.0, own.1)

  pub under_kept : AreUnderNumbers (kept es)
  under_kept = under_named (kept es) kept_under

  -- so there are no more pages than numbers
  pages_few : IsDistinct nat_eq (keys_of es) → length (pages_in (values_of es)) ≤ MAX_PAGES
  pages_few distinct =
      let ks : List ℕ = keys_of (kept es) in
      let low : All (λ m. m < MAX_PAGES) ks = All-map (λ m. m < MAX_PAGES) (λ (e : Entry). e.0) (kept es)
      (All-weaker (IsUnderNumber MAX_PAGES) (λ (e : Entry). e.0 < MAX_PAGES) (λ e under. under.below) (kept es) kept_under) in
      let few : length ks ≤ MAX_PAGES =
      length-le_from_distinct_below ks MAX_PAGES
      (IsDistinct-keys_filter nat_eq (λ (e : Entry). is_some e.1) es distinct)
      (λ q any. All-contains (λ m. m < MAX_PAGES) ks q low (Contains-list_any nat_eq eqb-true ks q any)) in
      omega (
        arith,
        few,
        length-keys_of (kept es),
        length-values_of (kept es),
        ap (length {A = Option Page}) (kept_slots es),
        length-map {B = Option Page} (pages_in (values_of es)) Some,
      )

  -- and few slots
  pub slots_few : (count : ℕ) → IsDistinct nat_eq (keys_of es) → AreCounted count (values_of es)
      → length es ≤ 2 * MAX_PAGES + 1
  slots_few count distinct counted = omega (arith, pages_few distinct, counted.holes, length-values_of es)

  -- ---- a page more

  -- the number that a hole gets is free
  pub free_number : lookup (nat_eq (MAX_PAGES + length es)) es ≡ None
  free_number = by (MAX_PAGES + length es) es all
    where
      by : (b : ℕ) (xs : List Entry) → All (IsUnderNumber b) xs → lookup (nat_eq b) xs ≡ None
      by b [] under = refl
      by b (x ∷ xs) under =
          let low = (All-head (IsUnderNumber b) x xs under).below in
          ap (λ (t : Bool). cond t (Some x.1) (lookup (nat_eq b) xs)) (ne_eqb b x.0 (λ same. let no : ⊥ = omega (arith, low, same) in no))
          ∙ by b xs (All-tail (IsUnderNumber b) x xs under)

  module _ (n : ℕ) (page : Page) (same : n ≡ page.number) (low : page.number < MAX_PAGES) where
    under_last : (xs : List Entry) → length xs ≡ length es → All (IsUnderNumber (MAX_PAGES + length es + 1)) xs
        → AreUnderNumbers (xs ++ (n, Some page) ∷ [])
    under_last xs long under =
        let b = MAX_PAGES + length es + 1 in
        let more : MAX_PAGES + length (xs ++ (n, Some page) ∷ []) ≡ b = omega (arith, length_push xs (n, Some page), long) in
        subst (λ (m : ℕ). All (IsUnderNumber m) (xs ++ (n, Some page) ∷ [])) (sym more)
        (under_with b xs n page same low (omega arith) under)

    pub under_more : AreUnderNumbers (es ++ (n, Some page) ∷ [])
    under_more = under_last es refl (later (MAX_PAGES + length es) (MAX_PAGES + length es + 1) es (omega arith) all)

    -- also where a hole had its number
    pub under_past_hole : (i : ℕ)
        → AreUnderNumbers (set es i (MAX_PAGES + length es, None) ++ (n, Some page) ∷ [])
    under_past_hole i =
        let b = MAX_PAGES + length es + 1 in
        under_last (set es i (MAX_PAGES + length es, None)) (length-set es i (MAX_PAGES + length es, None))
        (All-set (IsUnderNumber b) es i (MAX_PAGES + length es, None)
        (record { below = omega arith; own = tt }) (later (MAX_PAGES + length es) b es (omega arith) all))

pub values_more : (es : List Entry) (n : ℕ) (page : Page)
    → values_of (es ++ (n, Some page) ∷ []) ≡ values_of es ++ Some page ∷ []
values_more es n page = map-append (λ (e : Entry). e.1) es ((n, Some page) ∷ [])

pub values_past_hole : (es : List Entry) (i b n : ℕ) (page : Page) → slice_get es i ≡ Some (n, None)
    → values_of (set es i (b, None) ++ (n, Some page) ∷ []) ≡ values_of es ++ Some page ∷ []
values_past_hole es i b n page at =
    values_more (set es i (b, None)) n page
    ∙ ap (λ (ss : List (Option Page)). ss ++ Some page ∷ [])
    (map-set (λ (e : Entry). e.1) es i (b, None)
    ∙ ap (set (values_of es) i) (sym (value_at es i (n, None) at)) ∙ set-get_or (values_of es) i None)

-- an entry changes places with one that was put behind all
pub swapped_last : (es : List Entry) (i : ℕ) (e last : Entry) → slice_get es i ≡ Some e
    → swap (es ++ last ∷ []) i (length es) ≡ set es i last ++ e ∷ []
swapped_last es i e last at =
    let lt = slice_get_within es i e at in
    let long = length_push es last in
    let xs = es ++ last ∷ [] in
    sym (swap_is xs i (length es) last (omega (arith, lt, long)) (omega (arith, long)))
    ∙ ap (λ (x : Entry). set (set xs i x) (length es) (get_or xs i last)) (get_or_push es last last (length es) refl)
    ∙ ap (λ (x : Entry). set (set xs i last) (length es) x)
    (get_or_append_left es (last ∷ []) last i lt ∙ get_or_from_slice_get es i e last at)
    ∙ ap (λ (ys : List Entry). set ys (length es) e) (set-append_left es (last ∷ []) i last lt)
    ∙ ap (λ (k : ℕ). set (set es i last ++ last ∷ []) k e) (sym (length-set es i last))
    ∙ at_end (set es i last)
  where
    at_end : (xs : List Entry) → set (xs ++ last ∷ []) (length xs) e ≡ xs ++ e ∷ []
    at_end [] = refl
    at_end (x ∷ xs) = ap (λ (ys : List Entry). x ∷ ys) (at_end xs)

pub set_last : (es : List Entry) (e : Entry) (slot : Option Page)
    → set_value_at (es ++ e ∷ []) (length es) slot ≡ es ++ (e.0, slot) ∷ []
set_last [] e slot = refl
set_last (x ∷ es) e slot = ap (λ (ys : List Entry). x ∷ ys) (set_last es e slot)

-- ---- the last hole taken away

-- fewer entries stay below the bound
pub under_front : (b : ℕ) (es left : List Entry) (r : Option Entry) → es ≡ left ++ option_to_list r
    → All (IsUnderNumber b) es → All (IsUnderNumber b) left
under_front b es left r is all = λ k d lt.
    let more = option_to_list r in
    let all_of : All (IsUnderNumber b) (left ++ more) = subst (All (IsUnderNumber b)) is all in
    subst (IsUnderNumber b) (get_or_append_left left more d k lt)
    (all_of k d (omega (arith, lt, length-append left more)))

pub trimmed : (es left : List Entry) (r : Option Entry) → es ≡ left ++ option_to_list r
    → slice_get (values_of es) (length es - 1) ≡ Some None → IsTrimmed (values_of es) (values_of left)
trimmed es left None is hole = inl (sym (ap values_of (is ∙ append-nil left)))
trimmed es left (Some e) is hole = inr (slots ∙ ap (λ (o : Option Page). values_of left ++ o ∷ []) last)
  where
    slots : values_of es ≡ values_of left ++ e.1 ∷ []
    slots = ap values_of is ∙ map-append (λ (x : Entry). x.1) left (e ∷ [])

    last : e.1 ≡ None
    last =
        sym (get_or_push (values_of left) e.1 None (length es - 1)
        (omega (arith, ap (length {A = Option Page}) slots, length_push (values_of left) e.1, length-values_of es)))
        ∙ ap (λ (ss : List (Option Page)). get_or ss (length es - 1) None) (sym slots)
        ∙ get_or_from_slice_get (values_of es) (length es - 1) None None hole

-- ---- a change of one page

-- another page stays
pub other_stays : (next : Record) (n : ℕ) (page : Page) → IfSome (change_of next) (λ c. c.page ≡ n) → page.number ≢ n
    → with_record page next ≡ page
other_stays next n page names other = by_change (change_of next) names
  where
    by_change : (o : Option PageChange) → IfSome o (λ c. c.page ≡ n)
        → option_map_or (with_change page (own_lsn next)) o page ≡ page
    by_change None names = refl
    by_change (Some c) names =
        ap (λ (b : Bool). cond b (put page (own_lsn next) c.slot c.change) page)
        (ne_eqb c.page page.number (λ same. other (sym same ∙ names)))

slot_stays : (next : Record) (n : ℕ) (slot : Option Page) → IfSome (change_of next) (λ c. c.page ≡ n)
    → ((page : Page) → slot ≡ Some page → page.number ≢ n) → slot ≡ redone next slot
slot_stays next n None names other = refl
slot_stays next n (Some page) names other = ap Some (sym (other_stays next n page names (other page refl)))

-- the slot of the page, among all
pub redone_at : (next : Record) (n place : ℕ) (slots : List (Option Page)) (now : Option Page)
    → IfSome (change_of next) (λ c. c.page ≡ n)
    → ((k : ℕ) (page : Page) → get_or slots k None ≡ Some page → page.number ≡ n → k ≡ place)
    → place < length slots → now ≡ redone next (get_or slots place None) → set slots place now ≡ map (redone next) slots
redone_at next n place slots now names only within is =
    same_lists (set slots place now) (map (redone next) slots)
    (length-set slots place now ∙ sym (length-map slots (redone next)))
    (λ k d lt.
    let there : k < length slots = omega (arith, lt, length-set slots place now) in
    let after : redone next (get_or slots k None) ≡ get_or (map (redone next) slots) k d =
    sym (get_or-map (redone next) slots k None d there) in
    elim (cases_eq k place) [
      | inl same ↦
          ap (λ (i : ℕ). get_or (set slots place now) i d) same ∙ get_or-set_same slots place now d within
          ∙ is ∙ ap (λ (i : ℕ). redone next (get_or slots i None)) (sym same) ∙ after
      | inr other ↦
          get_or-set_other slots place k now d other ∙ get_or_default slots k d None there
          ∙ slot_stays next n (get_or slots k None) names (λ page at number. other (only k page at number))
          ∙ after
    ])

-- and where it has none, all slots stay
pub redone_none : (next : Record) (n : ℕ) (slots : List (Option Page)) → IfSome (change_of next) (λ c. c.page ≡ n)
    → is_resident (pages_in slots) n ≡ false → slots ≡ map (redone next) slots
redone_none next n slots names absent =
    stay slots (λ k page at same.
    true≢false (sym (resident_at slots k page at) ∙ ap (is_resident (pages_in slots)) same ∙ absent))
  where
    stay : (xs : List (Option Page)) → ((k : ℕ) (page : Page) → get_or xs k None ≡ Some page → page.number ≢ n)
        → xs ≡ map (redone next) xs
    stay [] other = refl
    stay (x ∷ xs) other =
        ap (λ (y : Option Page). y ∷ xs) (slot_stays next n x names (other 0))
        ∙ ap (λ (ys : List (Option Page)). redone next x ∷ ys) (stay xs (λ k page at. other (suc k) page at))

-- a change leaves each page under its number
pub under_redone : (b : ℕ) (next : Record) (es : List Entry) (i : ℕ) (slot : Option Page) → i < length es
    → slot ≡ redone next (get_or (values_of es) i None) → All (IsUnderNumber b) es
    → All (IsUnderNumber b) (set_value_at es i slot)
under_redone b next es i slot lt is all =
    under_set b es i slot lt all (λ e at under. record {
      below = under.below;
      own = subst (λ (o : Option Page). IfSome o (IsUnder e.0)) (sym (is ∙ ap (redone next) (value_at es i e at)))
          (by e.0 e.1 under.own);
    })
  where
    by : (n : ℕ) (old : Option Page) → IfSome old (IsUnder n) → IfSome (redone next old) (IsUnder n)
    by n None own = tt
    by n (Some page) own = subst (λ m. (m ≡ n) × (m < MAX_PAGES)) (sym (number-with_record page next)) own

-- the pages of slots on which a record was redone
pub pages_redone : (next : Record) (slots : List (Option Page))
    → pages_in (map (redone next) slots) ≡ map (λ page. with_record page next) (pages_in slots)
pages_redone next [] = refl
pages_redone next (None ∷ slots) = pages_redone next slots
pages_redone next (Some page ∷ slots) =
    ap (λ (qs : List Page). with_record page next ∷ qs) (pages_redone next slots)

pub counted_redone : (next : Record) (count : ℕ) (slots : List (Option Page)) → AreCounted count slots
    → AreCounted count (map (redone next) slots)
counted_redone next count slots counted =
    let pages : length (pages_in (map (redone next) slots)) ≡ length (pages_in slots) =
    ap (length {A = Page}) (pages_redone next slots) ∙ length-map (pages_in slots) (λ page. with_record page next) in
    record {
      pages = omega (arith, pages, counted.pages);
      holes = omega (arith, pages, counted.holes, length-map slots (redone next));
    }
