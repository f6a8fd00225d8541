-- The dirty pages of a pool, in order of their numbers.
use Rattle.std.proofs.Common.{◌≡◌, ℕ, zero, suc, ◌+◌, ◌<◌, ◌≤◌, Bool, cond, List, [], ◌∷◌, length, get_or, take}
use Rattle.std.proofs.Common.{refl, sym, ap, subst, ◌∙◌, ◌⊎◌, arith, inl, inr, true}
use Rattle.std.specs.Prelude.{Option, Some, None, nat_le}
use Rattle.std.specs.List.{All, Contains, cons_option, filter, filter_map, range_with_len}
use Rattle.std.specs.Option.{option_map}
use Rattle.std.proofs.lemmas.Bool.{cases_eq, cases_lt, le-leb, leb-true, lt-leb}
use Rattle.std.proofs.lemmas.List.{get_or-map, length-map, length-take}
use Rattle.std.proofs.lemmas.List.Elements.{All-cons, All-contains, All-filter, All-nil}
use Rattle.std.proofs.lemmas.List.Elements.{All-take, All-weaker, filter_passes}
use Rattle.log_records.specs.Log.{Log}
use Rattle.log_records.specs.Coverage.{dirty, next_dirty, rec_lsn}
use Rattle.log_records.specs.declared.dirty_page.DirtyPage.{DirtyPage}
use Rattle.buffer_pool.specs.PageStates.{AreClean, IsFirstDirty, dirty_in}
use Rattle.buffer_pool.specs.Pool.{IsEntryOf, PageState, state_in, unwritten, written_of}

-- the entry of a page whose RecLSN this is
abbrev entry : ℕ → Option ℕ → Option DirtyPage
entry p o = option_map (λ lsn. record { page = p; rec_lsn = lsn }) o

-- the entries of so many pages from a number on
abbrev entries : List PageState → ℕ → ℕ → List DirtyPage
entries states a n = filter_map (λ p. entry p (state_in states p).rec_lsn) (range_with_len a n)

-- those at or above a number
abbrev above : ℕ → List DirtyPage → List DirtyPage
above from es = filter (λ e. nat_le from e.page) es

one_above : (from p : ℕ) (o : Option ℕ) (es : List DirtyPage) → p < from
    → above from (cons_option (entry p o) es) ≡ above from es
one_above from p None es low = refl
one_above from p (Some lsn) es low =
    ap (λ (b : Bool). cond b (record { page = p; rec_lsn = lsn } ∷ above from es) (above from es)) (lt-leb from p low)

-- all of them are
all_above : (states : List PageState) (from a n : ℕ) → from ≤ a → above from (entries states a n) ≡ entries states a n
all_above states from a zero le = refl
all_above states from a (suc n) le =
    by_state (state_in states a).rec_lsn (all_above states from (a + 1) n (omega arith))
  where
    by_state : (o : Option ℕ) → above from (entries states (a + 1) n) ≡ entries states (a + 1) n
        → above from (cons_option (entry a o) (entries states (a + 1) n))
        ≡ cons_option (entry a o) (entries states (a + 1) n)
    by_state None rest = rest
    by_state (Some lsn) rest =
        ap (λ (b : Bool). cond b (record { page = a; rec_lsn = lsn } ∷ above from (entries states (a + 1) n))
        (above from (entries states (a + 1) n)))
        (le-leb from a le)
        ∙ ap (λ (es : List DirtyPage). record { page = a; rec_lsn = lsn } ∷ es) rest

none_above : (states : List PageState) (from a n : ℕ) → AreClean states from (a + n)
    → above from (entries states a n) ≡ []
none_above states from a zero clean = refl
none_above states from a (suc n) clean =
    let rest : above from (entries states (a + 1) n) ≡ [] =
    none_above states from (a + 1) n (λ p le lt. clean p le (omega arith)) in
    elim (cases_lt a from) [
      | inl low ↦ one_above from a (state_in states a).rec_lsn (entries states (a + 1) n) low ∙ rest
      | inr high ↦
          ap (λ (o : Option ℕ). above from (cons_option (entry a o) (entries states (a + 1) n)))
          (clean a high (omega arith))
          ∙ rest
    ]

-- the first of them, and those behind it
first_above : (states : List PageState) (from : ℕ) (e : DirtyPage) (a n : ℕ) → IsFirstDirty states from e → a ≤ e.page
    → e.page < a + n → above from (entries states a n) ≡ e ∷ above (e.page + 1) (entries states a n)
first_above states from e a zero first le lt = absurd (omega arith)
first_above states from e a (suc n) first le lt =
    elim (cases_eq a e.page) [
      | inl same ↦ here same
      | inr other ↦
          let low : a < e.page = omega arith in
          before (first_above states from e (a + 1) n first (omega arith) (omega arith))
          (state_in states a).rec_lsn refl low
    ]
  where
    here : a ≡ e.page → above from (cons_option (entry a (state_in states a).rec_lsn) (entries states (a + 1) n))
        ≡ e ∷ above (e.page + 1) (cons_option (entry a (state_in states a).rec_lsn) (entries states (a + 1) n))
    here same =
        let rest = entries states (a + 1) n in
        let later = first.later in
        let dirty : (state_in states a).rec_lsn ≡ Some e.rec_lsn =
        ap (λ (p : ℕ). (state_in states p).rec_lsn) same ∙ first.is_dirty in
        let x : DirtyPage = record { page = a; rec_lsn = e.rec_lsn } in
        let is : x ≡ e = ap (λ (p : ℕ). record { page = p; rec_lsn = e.rec_lsn }) same in
        let kept : above from (x ∷ rest) ≡ x ∷ above from rest =
        ap (λ (b : Bool). cond b (x ∷ above from rest) (above from rest)) (le-leb from a (omega arith)) in
        let passed : above (e.page + 1) (x ∷ rest) ≡ above (e.page + 1) rest =
        one_above (e.page + 1) a (Some e.rec_lsn) rest (omega arith) in
        ap (λ (o : Option ℕ). above from (cons_option (entry a o) rest)) dirty
        ∙ kept ∙ ap (λ (es : List DirtyPage). x ∷ es) (all_above states from (a + 1) n (omega arith))
        ∙ ap (λ (y : DirtyPage). y ∷ rest) is
        ∙ ap (λ (es : List DirtyPage). e ∷ es) (sym
        (ap (λ (o : Option ℕ). above (e.page + 1) (cons_option (entry a o) rest)) dirty
        ∙ passed ∙ all_above states (e.page + 1) (a + 1) n (omega arith)))

    before : above from (entries states (a + 1) n) ≡ e ∷ above (e.page + 1) (entries states (a + 1) n)
        → (o : Option ℕ) → (state_in states a).rec_lsn ≡ o → a < e.page
        → above from (cons_option (entry a o) (entries states (a + 1) n))
        ≡ e ∷ above (e.page + 1) (cons_option (entry a o) (entries states (a + 1) n))
    before rest None none low = rest
    before rest (Some lsn) some low = elim (cases_lt a from) [
      | inl below ↦
          one_above from a (Some lsn) (entries states (a + 1) n) below
          ∙ rest
          ∙ ap (λ (es : List DirtyPage). e ∷ es)
          (sym (one_above (e.page + 1) a (Some lsn) (entries states (a + 1) n) (omega arith)))
      | inr high ↦ let none = first.first a high low in cc
    ]

none_left : (states : List PageState) (from : ℕ) → AreClean states from (length states)
    → above from (dirty_in states) ≡ []
none_left states from clean = none_above states from 0 (length states) (λ p le lt. clean p le (omega arith))

first_left : (states : List PageState) (from : ℕ) (e : DirtyPage) → IsFirstDirty states from e
    → above from (dirty_in states) ≡ e ∷ above (e.page + 1) (dirty_in states)
first_left states from e first =
    let within = first.within in
    first_above states from e 0 (length states) first (omega arith) (omega arith)

-- ---- at most three of them

-- as many as follow one another
pub next_none : (states : List PageState) (from cursor : ℕ) → from ≡ cursor → AreClean states from (length states)
    → next_dirty (dirty_in states) cursor ≡ []
next_none states from cursor same clean =
    ap (next_dirty (dirty_in states)) (sym same) ∙ ap (take 3) (none_left states from clean)

pub next_one : (states : List PageState) (from cursor : ℕ) (a : DirtyPage) → from ≡ cursor
    → IsFirstDirty states from a → AreClean states (a.page + 1) (length states)
    → a ∷ [] ≡ next_dirty (dirty_in states) cursor
next_one states from cursor a same first clean =
    sym (ap (next_dirty (dirty_in states)) (sym same) ∙ ap (take 3) (first_left states from a first
    ∙ ap (λ (es : List DirtyPage). a ∷ es) (none_left states (a.page + 1) clean)))

pub next_two : (states : List PageState) (from cursor : ℕ) (a b : DirtyPage) → from ≡ cursor
    → IsFirstDirty states from a → IsFirstDirty states (a.page + 1) b → AreClean states (b.page + 1) (length states)
    → a ∷ b ∷ [] ≡ next_dirty (dirty_in states) cursor
next_two states from cursor a b same first second clean =
    sym (ap (next_dirty (dirty_in states)) (sym same) ∙ ap (take 3) (first_left states from a first
    ∙ ap (λ (es : List DirtyPage). a ∷ es) (first_left states (a.page + 1) b second
    ∙ ap (λ (es : List DirtyPage). b ∷ es) (none_left states (b.page + 1) clean))))

pub next_three : (states : List PageState) (from cursor : ℕ) (a b c : DirtyPage) → from ≡ cursor
    → IsFirstDirty states from a → IsFirstDirty states (a.page + 1) b → IsFirstDirty states (b.page + 1) c
    → a ∷ b ∷ c ∷ [] ≡ next_dirty (dirty_in states) cursor
next_three states from cursor a b c same first second third =
    sym (ap (next_dirty (dirty_in states)) (sym same) ∙ ap (take 3) (first_left states from a first
    ∙ ap (λ (es : List DirtyPage). a ∷ es) (first_left states (a.page + 1) b second
    ∙ ap (λ (es : List DirtyPage). b ∷ es) (first_left states (b.page + 1) c third))))

-- ---- what a log says of them

same_entries : (f g : ℕ → Option DirtyPage) (a n : ℕ) → ((p : ℕ) → a ≤ p → p < a + n → f p ≡ g p)
    → filter_map f (range_with_len a n) ≡ filter_map g (range_with_len a n)
same_entries f g a zero same = refl
same_entries f g a (suc n) same =
    ap (λ (o : Option DirtyPage). cons_option o (filter_map f (range_with_len (a + 1) n)))
    (same a (omega arith) (omega arith))
    ∙ ap (cons_option (g a)) (same_entries f g (a + 1) n (λ p le lt. same p (omega arith) (omega arith)))

-- the dirty page table of a pool's log is that of its states
pub table_is : (log : Log) (states : List PageState)
    → ((p : ℕ) → p < length states → (state_in states p).rec_lsn ≡ rec_lsn log.records p (state_in states p).written)
    → dirty log.records (written_of states) ≡ dirty_in states
table_is log states known =
    let long : length (written_of states) ≡ length states = length-map states (λ (s : PageState). s.written) in
    let by_log = λ (p : ℕ). entry p (rec_lsn log.records p (get_or (written_of states) p 0)) in
    ap (λ (n : ℕ). filter_map by_log (range_with_len 0 n)) long
    ∙ same_entries by_log (λ p. entry p (state_in states p).rec_lsn) 0 (length states) (λ p le lt.
    let there : p < length states = omega arith in
    ap (λ (w : ℕ). entry p (rec_lsn log.records p w))
    (get_or-map (λ (s : PageState). s.written) states p unwritten 0 there)
    ∙ ap (entry p) (sym (known p there)))

-- ---- which pages they leave out

-- what the entries are of
abbrev IsEntryIn : List PageState → ℕ → ℕ → DirtyPage → Type 0
IsEntryIn states a n e =
    (a ≤ e.page) × ((e.page < a + n) × ((state_in states e.page).rec_lsn ≡ Some e.rec_lsn))

all_entries : (states : List PageState) (a n : ℕ) → All (IsEntryIn states a n) (entries states a n)
all_entries states a zero = All-nil (IsEntryIn states a zero)
all_entries states a (suc n) =
    by_state (state_in states a).rec_lsn refl
    (All-weaker (IsEntryIn states (a + 1) n) (IsEntryIn states a (suc n))
    (λ e is. let low = is.0 in let high = is.1.0 in (omega arith, (omega arith, is.1.1)))
    (entries states (a + 1) n) (all_entries states (a + 1) n))
  where
    by_state : (o : Option ℕ) → (state_in states a).rec_lsn ≡ o
        → All (IsEntryIn states a (suc n)) (entries states (a + 1) n)
        → All (IsEntryIn states a (suc n)) (cons_option (entry a o) (entries states (a + 1) n))
    by_state None is rest = rest
    by_state (Some lsn) is rest =
        All-cons (IsEntryIn states a (suc n)) (record { page = a; rec_lsn = lsn }) (entries states (a + 1) n)
        (omega arith, (omega arith, is)) rest

-- an element of a list that is one longer
cons_cases : (x : DirtyPage) (xs : List DirtyPage) (y : DirtyPage) → Contains (x ∷ xs) y → (x ≡ y) ⊎ Contains xs y
cons_cases x xs y has = by_place has.0 has.1 has.2
  where
    by_place : (k : ℕ) → k < length (x ∷ xs) → get_or (x ∷ xs) k y ≡ y → (x ≡ y) ⊎ Contains xs y
    by_place zero lt e = inl e
    by_place (suc k) lt e = inr (k, omega arith, e)

cons_more : (x : DirtyPage) (xs : List DirtyPage) (y : DirtyPage) → Contains xs y → Contains (x ∷ xs) y
cons_more x xs y has = let lt = has.1 in (suc has.0, omega arith, has.2)

-- a page from the cursor on that is dirty is among them
kept_above : (from a lsn : ℕ) (rest : List DirtyPage) → from ≤ a
    → above from (cons_option (entry a (Some lsn)) rest) ≡ record { page = a; rec_lsn = lsn } ∷ above from rest
kept_above from a lsn rest le =
    ap (λ (b : Bool). cond b (record { page = a; rec_lsn = lsn } ∷ above from rest) (above from rest))
    (le-leb from a le)

module _ (states : List PageState) (from p lsn : ℕ) (le : from ≤ p)
    (dirty : (state_in states p).rec_lsn ≡ Some lsn) where
  mine : DirtyPage
  mine = record { page = p; rec_lsn = lsn }

  -- where it is the first page of the range
  first_here : (a : ℕ) (rest : List DirtyPage) → a ≡ p
      → above from (cons_option (entry a (state_in states a).rec_lsn) rest) ≡ mine ∷ above from rest
  unfolding mine
  first_here a rest same =
      ap (λ (q : ℕ). above from (cons_option (entry q (state_in states q).rec_lsn) rest)) same
      ∙ ap (λ (o : Option ℕ). above from (cons_option (entry p o) rest)) dirty ∙ kept_above from p lsn rest le

  is_above : (a n : ℕ) → a ≤ p → p < a + n → Contains (above from (entries states a n)) mine
  is_above a zero low high = absurd (omega arith)
  is_above a (suc n) low high = elim (cases_eq a p) [
    | inl same ↦
        subst (λ (es : List DirtyPage). Contains es mine) (sym (first_here a (entries states (a + 1) n) same))
        (0, omega arith, refl)
    | inr other ↦ behind (state_in states a).rec_lsn (is_above (a + 1) n (omega arith) (omega arith))
  ]
    where
      behind : (o : Option ℕ) → Contains (above from (entries states (a + 1) n)) mine
          → Contains (above from (cons_option (entry a o) (entries states (a + 1) n))) mine
      behind None rest = rest
      behind (Some l) rest = elim (cases_lt a from) [
        | inl below ↦
            subst (λ (es : List DirtyPage). Contains es mine)
            (sym (one_above from a (Some l) (entries states (a + 1) n) below))
            rest
        | inr on ↦
            subst (λ (es : List DirtyPage). Contains es mine) (sym (kept_above from a l (entries states (a + 1) n) on))
            (cons_more (record { page = a; rec_lsn = l }) (above from (entries states (a + 1) n)) mine rest)
      ]

  module _ (e : DirtyPage) (before : p < e.page) where
    -- that an element of some of the first has a later page says that the page is among them
    abbrev Passes : List DirtyPage → Type 0
    Passes es = (k : ℕ) → Contains (take k es) e → Contains (take k es) mine

    passes_none : Passes []
    passes_none zero has = let lt = has.1 in absurd (omega arith)
    passes_none (suc k) has = let lt = has.1 in absurd (omega arith)

    passes_here : (es : List DirtyPage) → Passes (mine ∷ es)
    passes_here es zero has = let lt = has.1 in absurd (omega arith)
    passes_here es (suc k) has = (0, omega arith, refl)

    passes_more : (x : DirtyPage) (es : List DirtyPage) → x.page < p → Passes es → Passes (x ∷ es)
    passes_more x es low rest zero has = let lt = has.1 in absurd (omega arith)
    passes_more x es low rest (suc k) has = elim (cons_cases x (take k es) e has) [
      | inl same ↦ let page : x.page ≡ e.page = ap (λ (y : DirtyPage). y.page) same in absurd (omega arith)
      | inr behind ↦ cons_more x (take k es) mine (rest k behind)
    ]

    passes : (a n : ℕ) → a ≤ p → Passes (above from (entries states a n))
    passes a zero low = passes_none
    passes a (suc n) low = elim (cases_eq a p) [
      | inl same ↦
          subst Passes (sym (first_here a (entries states (a + 1) n) same))
          (passes_here (above from (entries states (a + 1) n)))
      | inr other ↦
          let lower : a < p = omega arith in
          behind (state_in states a).rec_lsn lower (passes (a + 1) n (omega arith))
    ]
      where
        behind : (o : Option ℕ) → a < p → Passes (above from (entries states (a + 1) n))
            → Passes (above from (cons_option (entry a o) (entries states (a + 1) n)))
        behind None lower rest = rest
        behind (Some l) lower rest = elim (cases_lt a from) [
          | inl below ↦ subst Passes (sym (one_above from a (Some l) (entries states (a + 1) n) below)) rest
          | inr on ↦
              subst Passes (sym (kept_above from a l (entries states (a + 1) n) on))
              (passes_more (record { page = a; rec_lsn = l }) (above from (entries states (a + 1) n)) lower rest)
        ]

-- each of the next is dirty, and from the cursor on
pub next_named : (states : List PageState) (cursor : ℕ) (e : DirtyPage)
    → Contains (next_dirty (dirty_in states) cursor) e → IsEntryOf states cursor e
next_named states cursor e has =
    let all = all_entries states 0 (length states) in
    let test = λ (x : DirtyPage). nat_le cursor x.page in
    let is = All-contains (IsEntryIn states 0 (length states)) (next_dirty (dirty_in states) cursor) e
    (All-take (IsEntryIn states 0 (length states)) 3 (above cursor (dirty_in states))
    (All-filter test (IsEntryIn states 0 (length states)) (dirty_in states) all)) has in
    let on : nat_le cursor e.page ≡ true =
    All-contains (λ x. nat_le cursor x.page ≡ true) (next_dirty (dirty_in states) cursor) e
    (All-take (λ x. nat_le cursor x.page ≡ true) 3 (above cursor (dirty_in states))
    (filter_passes test (dirty_in states))) has in
    let high = is.1.0 in
    record { later = leb-true cursor e.page on; within = omega arith; is_dirty = is.1.1 }

-- a page before one of them is among them or clean
pub next_passed : (states : List PageState) (cursor p : ℕ) (e : DirtyPage)
    → Contains (next_dirty (dirty_in states) cursor) e → cursor ≤ p → p < e.page
    → All (λ x. x.page ≡ p → ⊥) (next_dirty (dirty_in states) cursor) → (state_in states p).rec_lsn ≡ None
unfolding mine
next_passed states cursor p e has le lt others = by_state (state_in states p).rec_lsn refl
  where
    by_state : (o : Option ℕ) → (state_in states p).rec_lsn ≡ o → (state_in states p).rec_lsn ≡ None
    by_state None is = is
    by_state (Some lsn) is =
        absurd (All-contains (λ x. x.page ≡ p → ⊥) (next_dirty (dirty_in states) cursor)
        (mine states cursor p lsn le is)
        others (passes states cursor p lsn le is e lt 0 (length states) (omega arith) 3 has) refl)

-- where there are none, each page from the cursor on is clean
pub next_empty : (states : List PageState) (cursor p : ℕ) → next_dirty (dirty_in states) cursor ≡ [] → cursor ≤ p
    → p < length states → (state_in states p).rec_lsn ≡ None
next_empty states cursor p none le lt = by_state (state_in states p).rec_lsn refl
  where
    by_state : (o : Option ℕ) → (state_in states p).rec_lsn ≡ o → (state_in states p).rec_lsn ≡ None
    by_state None is = is
    by_state (Some lsn) is =
        let has = is_above states cursor p lsn le is 0 (length states) (omega arith) (omega arith) in
        let some = has.1 in
        absurd (omega (arith, ap length none, length-take 3 (above cursor (dirty_in states))))
