-- The dirty pages of an engine, in order of their numbers.
use Rattle.std.proofs.Common.{◌≡◌, ℕ, zero, suc, ◌+◌, ◌<◌, ◌≤◌, List, [], ◌∷◌, length, get_or, take}
use Rattle.std.proofs.Common.{refl, sym, ap, subst, ◌∙◌, arith, inl, inr}
use Rattle.std.specs.Prelude.{IsSomeAnd, Option, Some, None, nat_le}
use Rattle.std.specs.List.{cons_option, filter, filter_map, range_with_len, slice_get}
use Rattle.std.specs.Option.{option_map}
use Rattle.std.proofs.lemmas.Bool.{cases_eq, cases_lt, le-leb, lt-leb}
use Rattle.log_records.specs.Coverage.{dirty, next_dirty, rec_lsn}
use Rattle.log_records.specs.declared.dirty_page.DirtyPage.{DirtyPage}
use Rattle.log_records.specs.declared.record.Record.{Record}

-- the entry of a page whose RecLSN this is
abbrev entry : (ℕ → Option ℕ) → ℕ → Option DirtyPage
entry f p = option_map (λ lsn. record { page = p; rec_lsn = lsn }) (f p)

-- the entries of so many pages from a number on
abbrev entries : (ℕ → Option ℕ) → ℕ → ℕ → List DirtyPage
entries f a n = filter_map (entry f) (range_with_len a n)

-- those at or above a number
abbrev above : ℕ → List DirtyPage → List DirtyPage
above from es = filter (λ e. nat_le from e.page) es

-- each page from a number on and below another one is clean
abbrev pub AreClean : (ℕ → Option ℕ) → ℕ → ℕ → Type 0
AreClean f from to = (p : ℕ) → from ≤ p → p < to → f p ≡ None

no_entries : (f : ℕ → Option ℕ) (a n : ℕ) → AreClean f a (a + n) → entries f a n ≡ []
no_entries f a zero clean = refl
no_entries f a (suc n) clean =
    let rest : entries f (a + 1) n ≡ [] = no_entries f (a + 1) n (λ p le lt. clean p (omega arith) (omega arith)) in
    ap (λ (o : Option ℕ). cons_option (option_map (λ lsn. record { page = a; rec_lsn = lsn }) o) (entries f (a + 1) n))
    (clean a (omega arith) (omega arith))
    ∙ rest

-- what the entries from a cursor on say: there are none, and each page is clean; or the first of them is dirty, and
-- each page before it is clean
data Says (f : ℕ → Option ℕ) (cursor a n : ℕ) : List DirtyPage → Type 0 where
  none_dirty : ((p : ℕ) → a ≤ p → cursor ≤ p → p < a + n → f p ≡ None) → Says f cursor a n []
  first_dirty : (e : DirtyPage) (es : List DirtyPage) → cursor ≤ e.page → a ≤ e.page → e.page < a + n
      → ((p : ℕ) → a ≤ p → cursor ≤ p → p < e.page → f p ≡ None) → Says f cursor a n (e ∷ es)

says : (f : ℕ → Option ℕ) (cursor a n : ℕ) → Says f cursor a n (above cursor (entries f a n))
says f cursor a zero = none_dirty (λ p from le lt. absurd (omega arith))
says f cursor a (suc n) = by_page (f a) refl (says f cursor (a + 1) n)
  where
    -- one page more, which is below the cursor or clean
    passed : (es : List DirtyPage) → (cursor ≤ a → f a ≡ None) → Says f cursor (a + 1) n es → Says f cursor a (suc n) es
    passed [] clean (none_dirty rest) = none_dirty (λ p from le lt. elim (cases_eq p a) [
      | inl same ↦ ap f same ∙ clean (omega arith)
      | inr other ↦ rest p (omega arith) le (omega arith)
    ])
    passed (e ∷ es) clean (first_dirty _ _ on from within rest) =
        first_dirty e es on (omega arith) (omega arith) (λ p low le lt. elim (cases_eq p a) [
          | inl same ↦ ap f same ∙ clean (omega arith)
          | inr other ↦ rest p (omega arith) le lt
        ])

    by_page : (o : Option ℕ) → f a ≡ o → Says f cursor (a + 1) n (above cursor (entries f (a + 1) n))
        → Says f cursor a (suc n)
        (above cursor (cons_option (option_map (λ lsn. record { page = a; rec_lsn = lsn }) (f a)) (entries f (a + 1) n)))
    by_page None is rest = rw is (passed (above cursor (entries f (a + 1) n)) (λ le. is) rest)
    by_page (Some lsn) is rest = elim (cases_lt a cursor) [
      | inl low ↦
          rw (is, lt-leb cursor a low) (passed (above cursor (entries f (a + 1) n)) (λ le. absurd (omega arith)) rest)
      | inr high ↦
          rw (is, le-leb cursor a high)
          (first_dirty (record { page = a; rec_lsn = lsn }) (above cursor (entries f (a + 1) n)) high (omega arith)
          (omega arith) (λ p low le lt. absurd (omega arith)))
    ]

-- ---- the table of an engine

abbrev lsn_in : List Record → List ℕ → ℕ → Option ℕ
lsn_in rs written p = rec_lsn rs p (get_or written p 0)

-- no page is dirty where each of them is clean
pub none_are_dirty : (rs : List Record) (written : List ℕ)
    → ((p : ℕ) → p < length written → rec_lsn rs p (get_or written p 0) ≡ None) → dirty rs written ≡ []
none_are_dirty rs written clean = no_entries (lsn_in rs written) 0 (length written) (λ p le lt. clean p (omega arith))

-- where no page is dirty from a cursor on, each from there on is clean
pub clean_from : (rs : List Record) (written : List ℕ) (cursor p : ℕ) → next_dirty (dirty rs written) cursor ≡ []
    → cursor ≤ p → p < length written → rec_lsn rs p (get_or written p 0) ≡ None
clean_from rs written cursor p none le lt =
    by_case (above cursor (dirty rs written)) none (says (lsn_in rs written) cursor 0 (length written))
  where
    by_case : (es : List DirtyPage) → take 3 es ≡ [] → Says (lsn_in rs written) cursor 0 (length written) es
        → lsn_in rs written p ≡ None
    by_case [] is (none_dirty clean) = clean p (omega arith) le (omega arith)
    by_case (e ∷ es) is says = absurd (cc)

-- what holds of the first dirty page from a cursor on
pub record IsFirst (rs : List Record) (written : List ℕ) (cursor page : ℕ) : Type 0 where
  pub on : cursor ≤ page
  pub within : page < length written
  pub before : (p : ℕ) → cursor ≤ p → p < page → rec_lsn rs p (get_or written p 0) ≡ None

pub first_from : (rs : List Record) (written : List ℕ) (cursor : ℕ) (e : DirtyPage) (es : List DirtyPage)
    → e ∷ es ≡ next_dirty (dirty rs written) cursor → IsFirst rs written cursor e.page
first_from rs written cursor e es is =
    by_case (above cursor (dirty rs written)) (sym is) (says (lsn_in rs written) cursor 0 (length written))
  where
    by_case : (xs : List DirtyPage) → take 3 xs ≡ e ∷ es → Says (lsn_in rs written) cursor 0 (length written) xs
        → IsFirst rs written cursor e.page
    by_case [] none says = absurd (cc)
    by_case (x ∷ xs) some (first_dirty _ _ on from within clean) =
        let same : x ≡ e = cc in
        subst (λ (y : DirtyPage). IsFirst rs written cursor y.page) same
        (record { on = on; within = omega arith; before = λ p le lt. clean p (omega arith) le lt })

-- the head of the next dirty pages is the first
pub first_is : (rs : List Record) (written : List ℕ) (cursor page : ℕ) (es : List DirtyPage)
    → IsSomeAnd (slice_get es 0) (λ e. page ≡ e.page) → es ≡ next_dirty (dirty rs written) cursor
    → IsFirst rs written cursor page
first_is rs written cursor page [] is next = absurd is
first_is rs written cursor page (e ∷ es) is next =
    subst (IsFirst rs written cursor) (sym is) (first_from rs written cursor e es next)
