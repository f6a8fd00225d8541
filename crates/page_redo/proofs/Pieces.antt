-- Redo of changes on a piece of a volume's pages, one after another.
use Rattle.std.proofs.Common.{◌≡◌, ◌≢◌, ℕ, zero, suc, ◌+◌, ◌<◌, Bool, true, false, cond, eqb, List, [], ◌∷◌, length}
use Rattle.std.proofs.Common.{drop}
use Rattle.std.specs.Prelude.{◌&&◌, nat_le, nat_lt}
use Rattle.std.proofs.Common.{get_or, set, map, take, refl, sym, ap, ◌∙◌, arith, inl, inr, eq-eqb}
use Rattle.std.proofs.lemmas.Bool.{cases_eq, lt-leb, ne_eqb}
use Rattle.std.proofs.lemmas.List.{get_or-map, get_or-set_other, get_or-set_same, get_or_default, length-map}
use Rattle.std.proofs.lemmas.List.{length-set, same_lists, take_more}
use Rattle.std.proofs.lemmas.List.Sums.{fold-append}
use Rattle.page_core.specs.declared.page.Page.{Page}
use Rattle.page_core.specs.Page.{put}
use Rattle.page_redo.specs.Placed.{AreNumberedFrom, Placed, is_redone, redone_by, redone_each, with_placed}

-- ---- one change

other_page : (from : ℕ) (page : Page) (c : Placed) → c.page ≢ page.number → redone_by from page c ≡ page
other_page from page c other = by_test (is_redone from page.lsn c)
  where
    same : with_placed page c ≡ page
    same = ap (λ (b : Bool). cond b (put page c.lsn c.slot c.change) page) (ne_eqb c.page page.number other)

    by_test : (b : Bool) → cond b (with_placed page c) page ≡ page
    by_test true = same
    by_test false = refl

number-redone_by : (from : ℕ) (page : Page) (c : Placed) → (redone_by from page c).number ≡ page.number
number-redone_by from page c = by_tests (is_redone from page.lsn c) (eqb c.page page.number)
  where
    by_tests : (b t : Bool) → (cond b (cond t (put page c.lsn c.slot c.change) page) page).number ≡ page.number
    by_tests true true = refl
    by_tests true false = refl
    by_tests false t = refl

-- the change is one of no page of the piece
pub none_redone : (from : ℕ) (pages : List Page) (c : Placed)
    → ((k : ℕ) (d : Page) → k < length pages → c.page ≢ (get_or pages k d).number)
    → pages ≡ map (λ page. redone_by from page c) pages
none_redone from pages c others =
    let step = λ (page : Page). redone_by from page c in
    same_lists pages (map step pages) (sym (length-map pages step)) (λ k d lt.
    sym (get_or-map step pages k d d lt ∙ other_page from (get_or pages k d) c (others k d lt)))

-- the change is one of this page
pub one_redone : (from first at : ℕ) (pages : List Page) (c : Placed) (d : Page) → AreNumberedFrom first pages
    → at < length pages → first + at ≡ c.page
    → set pages at (redone_by from (get_or pages at d) c) ≡ map (λ page. redone_by from page c) pages
one_redone from first at pages c d numbers lt here =
    let step = λ (page : Page). redone_by from page c in
    let new = step (get_or pages at d) in
    let done = set pages at new in
    same_lists done (map step pages) (length-set pages at new ∙ sym (length-map pages step)) (λ k x below.
    let below' : k < length pages = omega (arith, length-set pages at new) in
    elim (cases_eq k at) [
      | inl same ↦
          ap (λ n. get_or done n x) same ∙ get_or-set_same pages at new x lt
          ∙ ap step (get_or_default pages at d x lt) ∙ ap (λ n. step (get_or pages n x)) (sym same)
          ∙ sym (get_or-map step pages k x x below')
      | inr other ↦
          let number : (get_or pages k x).number ≡ first + k = numbers k x below' in
          let apart : c.page ≢ (get_or pages k x).number = λ same. other (omega arith) in
          get_or-set_other pages at k new x other
          ∙ sym (get_or-map step pages k x x below' ∙ other_page from (get_or pages k x) c apart)
    ])

-- a change at or above the redo point is redone on its page by the page's LSN
redone : (from : ℕ) (page : Page) (c : Placed) → nat_le from c.lsn ≡ true → c.page ≡ page.number
    → cond (nat_lt page.lsn c.lsn) (put page c.lsn c.slot c.change) page ≡ redone_by from page c
redone from page c low here =
    ap (λ (b : Bool). cond (nat_lt page.lsn c.lsn) (cond b (put page c.lsn c.slot c.change) page) page)
    (sym (eq-eqb c.page page.number here))
    ∙ ap (λ (b : Bool). cond (b && nat_lt page.lsn c.lsn) (with_placed page c) page) (sym low)

pub set_redone : (from first at : ℕ) (pages : List Page) (c : Placed) (d : Page) → AreNumberedFrom first pages
    → at < length pages → first + at ≡ c.page → nat_le from c.lsn ≡ true → (new : Page)
    → new ≡ cond (nat_lt (get_or pages at d).lsn c.lsn) (put (get_or pages at d) c.lsn c.slot c.change) (get_or pages at d)
    → set pages at new ≡ map (λ page. redone_by from page c) pages
set_redone from first at pages c d numbers lt here low new is =
    ap (set pages at) (is ∙ redone from (get_or pages at d) c low (sym (numbers at d lt ∙ here)))
    ∙ one_redone from first at pages c d numbers lt here

-- one below the redo point is left out
below_redo : (from : ℕ) (page : Page) (c : Placed) → nat_le from c.lsn ≡ false → redone_by from page c ≡ page
below_redo from page c below = ap (λ (b : Bool). cond (b && nat_lt page.lsn c.lsn) (with_placed page c) page) below

pub set_left : (from first at : ℕ) (pages : List Page) (c : Placed) (d : Page) → AreNumberedFrom first pages
    → at < length pages → first + at ≡ c.page → nat_le from c.lsn ≡ false
    → set pages at (get_or pages at d) ≡ map (λ page. redone_by from page c) pages
set_left from first at pages c d numbers lt here below =
    ap (set pages at) (sym (below_redo from (get_or pages at d) c below))
    ∙ one_redone from first at pages c d numbers lt here

-- ---- one change after another

pub none_yet : (from : ℕ) (pages : List Page) → pages ≡ map (redone_each [] from) pages
none_yet from [] = refl
none_yet from (page ∷ pages) = ap (λ (rest : List Page). page ∷ rest) (none_yet from pages)

redone_more : (from : ℕ) (page : Page) (cs : List Placed) (i : ℕ) (d : Placed) → i < length cs
    → redone_by from (redone_each (take i cs) from page) (get_or cs i d) ≡ redone_each (take (i + 1) cs) from page
redone_more from page cs i d lt =
    sym (ap (λ (xs : List Placed). redone_each xs from page) (take_more cs i d lt)
    ∙ fold-append (redone_by from) page (take i cs) (get_or cs i d ∷ []))

pub each_more : (from : ℕ) (pages : List Page) (cs : List Placed) (i : ℕ) (d : Placed) → i < length cs
    → map (λ page. redone_by from page (get_or cs i d)) (map (redone_each (take i cs) from) pages)
    ≡ map (redone_each (take (i + 1) cs) from) pages
each_more from [] cs i d lt = refl
each_more from (page ∷ pages) cs i d lt =
    rw (redone_more from page cs i d lt, each_more from pages cs i d lt) refl

pub numbered_more : (from first : ℕ) (pages : List Page) (cs : List Placed) → AreNumberedFrom first pages
    → AreNumberedFrom first (map (redone_each cs from) pages)
numbered_more from first pages cs numbers = λ k d lt.
    let below : k < length pages = omega (arith, length-map pages (redone_each cs from)) in
    let page = get_or pages k d in
    ap (λ (q : Page). q.number) (get_or-map (redone_each cs from) pages k d d below)
    ∙ number-redone_each page cs ∙ numbers k d below
  where
    number-redone_each : (page : Page) (cs : List Placed) → (redone_each cs from page).number ≡ page.number
    number-redone_each page [] = refl
    number-redone_each page (c ∷ cs) = number-redone_each (redone_by from page c) cs ∙ number-redone_by from page c

-- ---- the changes below the redo point

pub redone_without : (from k : ℕ) (page : Page) (cs : List Placed)
    → ((i : ℕ) (d : Placed) → i < k → i < length cs → (get_or cs i d).lsn < from)
    → redone_each (drop k cs) from page ≡ redone_each cs from page
redone_without from zero page cs below = refl
redone_without from (suc k) page [] below = refl
redone_without from (suc k) page (c ∷ cs) below =
    redone_without from k page cs (λ i d lt within. below (suc i) d (omega (arith, lt)) (omega (arith, within)))
    ∙ ap (redone_each cs from) (sym (below_redo from page c
    (lt-leb from c.lsn (below 0 c (omega arith) (omega arith)))))

pub same_redone : (from : ℕ) (one other : List Placed) (pages : List Page)
    → ((page : Page) → redone_each one from page ≡ redone_each other from page)
    → map (redone_each one from) pages ≡ map (redone_each other from) pages
same_redone from one other [] same = refl
same_redone from one other (page ∷ pages) same = rw (same page, same_redone from one other pages same) refl

-- ---- the pieces of a volume

-- a page that lies at an offset of a piece is redone with that piece
pub in_piece : (step : Page → Page) (pages new before after : List Page) (k offset : ℕ) (d : Page)
    → k < length pages → offset < length before → get_or before offset d ≡ get_or pages k d
    → after ≡ map step before → get_or after offset d ≡ get_or new k d → get_or new k d ≡ get_or (map step pages) k d
in_piece step pages new before after k offset d here there old call last =
    sym last ∙ ap (λ (piece : List Page). get_or piece offset d) call
    ∙ get_or-map step before offset d d there ∙ ap step old ∙ sym (get_or-map step pages k d d here)
