-- The next dirty pages of a log: what they are, and that none before the last of them is left out.
use Rattle.std.proofs.Common.{◌≡◌, ℕ, zero, suc, ◌+◌, ◌<◌, ◌≤◌, Bool, true, false, cond, List, [], ◌∷◌, length, get_or}
use Rattle.std.proofs.Common.{take}
use Rattle.std.proofs.Common.{refl, sym, ap, subst, ◌∙◌, arith, inl, inr, ◌⊎◌}
use Rattle.std.specs.Prelude.{Option, Some, None, nat_le}
use Rattle.std.specs.List.{All, Contains, cons_option, filter, filter_map, range_with_len}
use Rattle.std.specs.Option.{option_map}
use Rattle.std.proofs.lemmas.Bool.{cases_eq, cases_lt, le-leb, leb-true, lt-leb}
use Rattle.std.proofs.lemmas.List.Elements.{All-cons, All-filter, All-head, All-nil, All-take, All-weaker}
use Rattle.std.proofs.lemmas.List.Elements.{filter_passes}
use Rattle.log_records.specs.declared.dirty_page.DirtyPage.{DirtyPage}
use Rattle.log_records.specs.declared.dirty_page.DirtyPages.{DirtyPages}
use Rattle.log_records.specs.declared.dirty_page.DirtyPages.TheVariants.{One, Two, Three}
use Rattle.log_records.specs.declared.record.Record.{Record}
use Rattle.log_records.specs.Coverage.{dirty, next_dirty, rec_lsn}
use Rattle.log_records.specs.DirtyPage.{entries_of}
use Rattle.fuzzy_ckpt.specs.Steps.{last_page, pages_of}

-- the entry of a page whose RecLSN this is
abbrev entry : ℕ → Option ℕ → Option DirtyPage
entry p o = option_map (λ lsn. record { page = p; rec_lsn = lsn }) o

-- the entries of so many pages from a number on
abbrev entries : (ℕ → Option ℕ) → ℕ → ℕ → List DirtyPage
entries f a n = filter_map (λ p. entry p (f p)) (range_with_len a n)

-- those at or above a number
abbrev above : ℕ → List DirtyPage → List DirtyPage
above from es = filter (λ e. nat_le from e.page) es

-- ---- what an entry is

pub record IsEntry (f : ℕ → Option ℕ) (from end : ℕ) (e : DirtyPage) : Type 0 where
  pub later : from ≤ e.page
  pub within : e.page < end
  pub dirty : f e.page ≡ Some e.rec_lsn

All-cons_option : (P : DirtyPage → Type 0) (p : ℕ) (o : Option ℕ) (es : List DirtyPage)
    → ((lsn : ℕ) → o ≡ Some lsn → P (record { page = p; rec_lsn = lsn })) → All P es
    → All P (cons_option (entry p o) es)
All-cons_option P p None es new all = all
All-cons_option P p (Some lsn) es new all = All-cons P (record { page = p; rec_lsn = lsn }) es (new lsn refl) all

entries_are : (f : ℕ → Option ℕ) (a n : ℕ) → All (IsEntry f a (a + n)) (entries f a n)
entries_are f a zero = All-nil (IsEntry f a (a + 0))
entries_are f a (suc n) =
    All-cons_option (IsEntry f a (a + suc n)) a (f a) (entries f (a + 1) n)
    (λ lsn is. record { later = omega arith; within = omega arith; dirty = is })
    (All-weaker (IsEntry f (a + 1) (a + 1 + n)) (IsEntry f a (a + suc n)) (λ e is.
    let later = is.later in
    let within = is.within in
    record { later = omega arith; within = omega arith; dirty = is.dirty })
    (entries f (a + 1) n) (entries_are f (a + 1) n))

-- ---- they rise

abbrev pub AreRising : List DirtyPage → Type 0
AreRising [] = Unit {0}
AreRising (e ∷ es) = All (λ x. e.page < x.page) es × AreRising es

rising_entries : (f : ℕ → Option ℕ) (a n : ℕ) → AreRising (entries f a n)
rising_entries f a zero = tt
rising_entries f a (suc n) = by_lsn (f a) (rising_entries f (a + 1) n)
  where
    by_lsn : (o : Option ℕ) → AreRising (entries f (a + 1) n)
        → AreRising (cons_option (entry a o) (entries f (a + 1) n))
    by_lsn None rest = rest
    by_lsn (Some lsn) rest = (
      All-weaker (IsEntry f (a + 1) (a + 1 + n)) (λ x. a < x.page) (λ x is. let later = is.later in omega arith)
          (entries f (a + 1) n) (entries_are f (a + 1) n),
      rest,
    )

rising_filter : (test : DirtyPage → Bool) (es : List DirtyPage) → AreRising es → AreRising (filter test es)
rising_filter test [] rising = tt
rising_filter test (e ∷ es) rising = by_test (test e) (rising_filter test es rising.1)
  where
    by_test : (b : Bool) → AreRising (filter test es) → AreRising (cond b (e ∷ filter test es) (filter test es))
    by_test true rest = (All-filter test (λ x. e.page < x.page) es rising.0, rest)
    by_test false rest = rest

rising_take : (n : ℕ) (es : List DirtyPage) → AreRising es → AreRising (take n es)
rising_take zero es rising = tt
rising_take (suc n) [] rising = tt
rising_take (suc n) (e ∷ es) rising = (All-take (λ x. e.page < x.page) n es rising.0, rising_take n es rising.1)

-- ---- none is left out

-- an entry is among these, unless they are so many, and all before it
abbrev Among : ℕ → List DirtyPage → ℕ → ℕ → Type 0
Among k es p lsn =
    Contains es (record { page = p; rec_lsn = lsn }) ⊎ ((k ≤ length es) × All (λ e. e.page < p) es)

head_of : (p lsn a l : ℕ) (es : List DirtyPage) → p ≡ a → l ≡ lsn
    → Contains (record { page = a; rec_lsn = l } ∷ es) (record { page = p; rec_lsn = lsn })
head_of p lsn a l es same is = (0, omega arith, λ i. record { page = sym same i; rec_lsn = is i })

behind : (e x : DirtyPage) (es : List DirtyPage) → Contains es x → Contains (e ∷ es) x
behind e x es has = (suc has.0, let lt = has.1 in omega arith, has.2)

module _ (f : ℕ → Option ℕ) (from a n p lsn : ℕ) (low : a ≤ p) (le : from ≤ p) (is : f p ≡ Some lsn)
    (later : (k : ℕ) → a < p → Among k (take k (above from (entries f (a + 1) n))) p lsn) where
  taken : (k l : ℕ) → f a ≡ Some l
      → Among k (take k (record { page = a; rec_lsn = l } ∷ above from (entries f (a + 1) n))) p lsn
  taken zero l here = inr (omega arith, All-nil (λ (e : DirtyPage). e.page < p))
  taken (suc k) l here =
      let e : DirtyPage = record { page = a; rec_lsn = l } in
      let es = take k (above from (entries f (a + 1) n)) in
      elim (cases_eq p a) [
        | inl same ↦
            let both : Some l ≡ Some lsn = sym here ∙ ap f (sym same) ∙ is in
            let one : l ≡ lsn = cc in
            inl (head_of p lsn a l es same one)
        | inr other ↦
            let lt : a < p = omega arith in
            elim (later k lt) [
              | inl has ↦ inl (behind e (record { page = p; rec_lsn = lsn }) es has)
              | inr all ↦
                  let long = all.0 in
                  inr (omega arith, All-cons (λ (x : DirtyPage). x.page < p) e es lt all.1)
            ]
      ]

  found_next : (k : ℕ) (o : Option ℕ) → f a ≡ o
      → Among k (take k (above from (cons_option (entry a o) (entries f (a + 1) n)))) p lsn
  found_next k None none = elim (cases_eq p a) [
    | inl same ↦ let both : None ≡ Some lsn = sym none ∙ ap f (sym same) ∙ is in cc
    | inr other ↦ let lt : a < p = omega arith in later k lt
  ]
  found_next k (Some l) here =
      let e : DirtyPage = record { page = a; rec_lsn = l } in
      let es = above from (entries f (a + 1) n) in
      elim (cases_lt a from) [
        | inl below ↦
            let lt : a < p = omega arith in
            subst (λ (b : Bool). Among k (take k (cond b (e ∷ es) es)) p lsn) (sym (lt-leb from a below)) (later k lt)
        | inr high ↦
            subst (λ (b : Bool). Among k (take k (cond b (e ∷ es) es)) p lsn) (sym (le-leb from a high))
            (taken k l here)
      ]

found : (f : ℕ → Option ℕ) (from k a n p lsn : ℕ) → a ≤ p → p < a + n → from ≤ p → f p ≡ Some lsn
    → Among k (take k (above from (entries f a n))) p lsn
found f from k a zero p lsn low high le is = absurd (omega arith)
found f from k a (suc n) p lsn low high le is =
    found_next f from a n p lsn low le is
    (λ k lt. found f from k (a + 1) n p lsn (omega arith) (omega arith) le is) k (f a) refl

-- ---- the next ones

pub record AreNext (f : ℕ → Option ℕ) (from end : ℕ) (es : List DirtyPage) : Type 0 where
  pub each : All (IsEntry f from end) es
  pub rising : AreRising es
  pub found_or_past : (p lsn : ℕ) → from ≤ p → p < end → f p ≡ Some lsn → Among 3 es p lsn

next_are : (f : ℕ → Option ℕ) (from end : ℕ) → AreNext f from end (take 3 (above from (entries f 0 end)))
next_are f from end =
    let all = entries f 0 end in
    let passed = filter_passes (λ (e : DirtyPage). nat_le from e.page) all in
    let sum : 0 + end ≡ end = omega arith in
    let are = subst (λ (n : ℕ). All (IsEntry f 0 n) all) sum (entries_are f 0 end) in
    let kept = All-filter (λ (e : DirtyPage). nat_le from e.page) (IsEntry f 0 end) all are in
    record {
      each = All-take (IsEntry f from end) 3 (above from all) (λ i d lt.
          let is = kept i d lt in
          record { later = leb-true from _ (passed i d lt); within = is.within; dirty = is.dirty });
      rising = rising_take 3 (above from all)
          (rising_filter (λ (e : DirtyPage). nat_le from e.page) all (rising_entries f 0 end));
      found_or_past = λ p lsn le lt is. found f from 3 0 end p lsn (omega arith) (omega arith) le is;
    }

-- the RecLSN of each page
abbrev pub lsn_at : List Record → List ℕ → ℕ → Option ℕ
lsn_at rs written p = rec_lsn rs p (get_or written p 0)

pub next_dirty_are : (rs : List Record) (written : List ℕ) (from : ℕ)
    → AreNext (lsn_at rs written) from (length written) (next_dirty (dirty rs written) from)
next_dirty_are rs written from = next_are (lsn_at rs written) from (length written)

-- where there are none, no page is dirty
pub none_left : (f : ℕ → Option ℕ) (from end : ℕ) → AreNext f from end [] → (p : ℕ) → from ≤ p → p < end → f p ≡ None
none_left f from end next p le lt = by_lsn (f p) refl
  where
    by_lsn : (o : Option ℕ) → f p ≡ o → o ≡ None
    by_lsn None is = refl
    by_lsn (Some lsn) is = elim (next.found_or_past p lsn le lt is) [
      | inl has ↦ let at = has.1 in absurd (omega arith)
      | inr all ↦ let long = all.0 in absurd (omega arith)
    ]

-- no dirty page before the last of them is left out
pub none_between : (f : ℕ → Option ℕ) (from end : ℕ) (pages : DirtyPages) → AreNext f from end (entries_of pages)
    → (p lsn : ℕ) → from ≤ p → p < end → p < last_page pages + 1 → f p ≡ Some lsn
    → Contains (entries_of pages) (record { page = p; rec_lsn = lsn })
none_between f from end (One a) next p lsn le lt low is = elim (next.found_or_past p lsn le lt is) [
  | inl has ↦ has
  | inr all ↦ let long = all.0 in absurd (omega arith)
]
none_between f from end (Two a b) next p lsn le lt low is = elim (next.found_or_past p lsn le lt is) [
  | inl has ↦ has
  | inr all ↦ let long = all.0 in absurd (omega arith)
]
none_between f from end (Three a b c) next p lsn le lt low is = elim (next.found_or_past p lsn le lt is) [
  | inl has ↦ has
  | inr all ↦ let last : c.page < p = all.1 2 c (omega arith) in absurd (omega arith)
]

-- none of them is past the last
pub upto_last : (f : ℕ → Option ℕ) (from end : ℕ) (pages : DirtyPages) → AreNext f from end (entries_of pages)
    → All (λ e. e.page < last_page pages + 1) (entries_of pages)
upto_last f from end (One a) next = All-cons (λ e. e.page < a.page + 1) a [] (omega arith)
    (All-nil (λ (e : DirtyPage). e.page < a.page + 1))
upto_last f from end (Two a b) next =
    let P = λ (e : DirtyPage). e.page < b.page + 1 in
    let first : a.page < b.page = All-head (λ x. a.page < x.page) b [] next.rising.0 in
    All-cons P a (b ∷ []) (omega arith) (All-cons P b [] (omega arith) (All-nil P))
upto_last f from end (Three a b c) next =
    let P = λ (e : DirtyPage). e.page < c.page + 1 in
    let first : a.page < b.page = All-head (λ x. a.page < x.page) b (c ∷ []) next.rising.0 in
    let second : b.page < c.page = All-head (λ x. b.page < x.page) c [] next.rising.1.0 in
    All-cons P a (b ∷ c ∷ []) (omega arith)
    (All-cons P b (c ∷ []) (omega arith) (All-cons P c [] (omega arith) (All-nil P)))

-- and the last is none before the cursor
pub last_is : (f : ℕ → Option ℕ) (from end : ℕ) (pages : DirtyPages) → AreNext f from end (entries_of pages)
    → (from ≤ last_page pages) × (last_page pages < end)
last_is f from end (One a) next = let is = All-head (IsEntry f from end) a [] next.each in (is.later, is.within)
last_is f from end (Two a b) next = let is = next.each 1 b (omega arith) in (is.later, is.within)
last_is f from end (Three a b c) next = let is = next.each 2 c (omega arith) in (is.later, is.within)

-- ---- the record that they go into

pub pages_of_entries : (pages : DirtyPages) (es : List DirtyPage) → entries_of pages ≡ es → pages_of es ≡ Some pages
pages_of_entries (One a) es is = subst (λ (xs : List DirtyPage). pages_of xs ≡ Some (One a)) is refl
pages_of_entries (Two a b) es is = subst (λ (xs : List DirtyPage). pages_of xs ≡ Some (Two a b)) is refl
pages_of_entries (Three a b c) es is = subst (λ (xs : List DirtyPage). pages_of xs ≡ Some (Three a b c)) is refl
