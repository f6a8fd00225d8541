-- The LSNs of a log's records rise, so redo may test them against a page's LSN as it goes.
use Rattle.std.proofs.Common.{◌≡◌, ℕ, zero, suc, ◌+◌, ◌*◌, ◌<◌, ◌≤◌, Bool, true, false, cond, List, [], ◌∷◌, length}
use Rattle.std.proofs.Common.{get_or, map, refl, sym, ap, subst, ◌∙◌, arith, inl, inr}
use Rattle.std.specs.Prelude.{Option, Some, None, ◌&&◌, nat_le, nat_lt}
use Rattle.std.specs.List.{cons_option, filter}
use Rattle.std.specs.List.Sorted.{IsNonDecreasingBy}
use Rattle.std.specs.Option.{option_map, option_map_or}
use Rattle.std.proofs.lemmas.Bool.{lt-ltb, ltb-true}
use Rattle.page_core.specs.declared.change.Change.{Change}
use Rattle.page_core.specs.declared.change.Change.TheVariants.{Set, Add}
use Rattle.page_core.specs.declared.page.Page.{Page}
use Rattle.page_core.specs.Change.{changed}
use Rattle.log_records.specs.declared.page_change.PageChange.{PageChange}
use Rattle.log_records.specs.declared.record.Record.{Record}
use Rattle.log_records.specs.Coverage.{is_resumed, resume}
use Rattle.log_records.specs.Image.{image_from, with_change, with_record}
use Rattle.log_records.specs.Log.{IsLog, Log}
use Rattle.log_records.specs.Record.{change_of, own_lsn}
use Rattle.log_records.proofs.Public.{changes_or_not, no_change}
use Rattle.page_redo.specs.Placed.{Placed, placed_at, placed_by, placed_in, redo_part, redone_each}
use Rattle.page_redo.specs.Placed.{with_placed}

-- ---- one record

-- the number that a Set replaces does not matter to redo
same_number : (c : Change) (number : ℕ) → changed (redo_part c) number ≡ changed c number
same_number (Set before after) number = refl
same_number (Add amount) number = refl

same_placed : (page : Page) (lsn : ℕ) (c : PageChange) → with_placed page (placed_at lsn c) ≡ with_change page lsn c
same_placed page lsn c = rw same_number refl

-- what redo needs of a record is redone as the record is
pub one_placed : (from : ℕ) (page : Page) (r : Record) (cs : List Placed)
    → redone_each (cons_option (placed_by r) cs) from page
    ≡ redone_each cs from (cond (is_resumed from page.lsn r) (with_record page r) page)
one_placed from page r cs = by_change (change_of r) refl
  where
    same : (b : Bool) (q : Page) → q ≡ page → cond b q page ≡ page
    same true q e = e
    same false q e = refl

    by_change : (o : Option PageChange) → change_of r ≡ o
        → redone_each (cons_option (option_map (placed_at (own_lsn r)) o) cs) from page
        ≡ redone_each cs from (cond (is_resumed from page.lsn r) (with_record page r) page)
    by_change None e =
        ap (redone_each cs from) (sym (same (is_resumed from page.lsn r) (with_record page r) (no_change page r e)))
    by_change (Some c) e =
        ap (λ (q : Page). redone_each cs from (cond (is_resumed from page.lsn r) q page))
        (same_placed page (own_lsn r) c
        ∙ ap (λ (o : Option PageChange). option_map_or (with_change page (own_lsn r)) o page) (sym e))

-- ---- one record after another

-- the records' LSNs rise, and are all above one
abbrev pub Rises : ℕ → List Record → Type 0
Rises low [] = Unit {0}
Rises low (r ∷ rs) = (low < own_lsn r) × Rises (own_lsn r) rs

-- just these records are resumed on either of two pages whose LSNs are below them all
same_resumed : (from one other low : ℕ) (rs : List Record) → one ≤ low → other ≤ low → Rises low rs
    → filter (is_resumed from one) rs ≡ filter (is_resumed from other) rs
same_resumed from one other low [] below under rise = refl
same_resumed from one other low (r ∷ rs) below under rise =
    let first = rise.0 in
    let rest = same_resumed from one other (own_lsn r) rs (omega arith) (omega arith) rise.1 in
    let above : nat_lt one (own_lsn r) ≡ nat_lt other (own_lsn r) =
    lt-ltb one (own_lsn r) (omega arith) ∙ sym (lt-ltb other (own_lsn r) (omega arith)) in
    ap (λ (b : Bool). cond (nat_le from (own_lsn r) && b) (r ∷ filter (is_resumed from one) rs)
    (filter (is_resumed from one) rs)) above
    ∙ ap (λ (xs : List Record). cond (is_resumed from other r) (r ∷ xs) xs) rest

-- the LSN of a page after a record that is above it is at most the record's
moves_up : (page : Page) (r : Record) → page.lsn < own_lsn r → (with_record page r).lsn ≤ own_lsn r
moves_up page r lt = elim (changes_or_not page r) [
  | inl same ↦ let is = ap (λ (q : Page). q.lsn) same in omega arith
  | inr moved ↦ omega arith
]

above : (from lsn : ℕ) (r : Record) → is_resumed from lsn r ≡ true → lsn < own_lsn r
above from lsn r e = ltb-true lsn (own_lsn r) (second (nat_le from (own_lsn r)) (nat_lt lsn (own_lsn r)) e)
  where
    second : (a b : Bool) → (a && b) ≡ true → b ≡ true
    second true b e = e
    second false b e = cc

one_more : (from : ℕ) (page : Page) (r : Record) (rs : List Record) → Rises (own_lsn r) rs
    → redone_each (placed_in rs) from page ≡ resume page rs from
    → redone_each (placed_in rs) from (with_record page r) ≡ resume (with_record page r) rs from
    → (b : Bool) → is_resumed from page.lsn r ≡ b
    → redone_each (placed_in rs) from (cond b (with_record page r) page)
    ≡ image_from page (cond b (r ∷ filter (is_resumed from page.lsn) rs) (filter (is_resumed from page.lsn) rs))
one_more from page r rs rise stays moves true e =
    let next = with_record page r in
    let lt : page.lsn < own_lsn r = above from page.lsn r e in
    moves ∙ ap (image_from next)
    (same_resumed from next.lsn page.lsn (own_lsn r) rs (moves_up page r lt) (omega arith) rise)
one_more from page r rs rise stays moves false e = stays

by_own_lsn : (from : ℕ) (page : Page) (rs : List Record) (low : ℕ) → Rises low rs
    → redone_each (placed_in rs) from page ≡ resume page rs from
by_own_lsn from page [] low rise = refl
by_own_lsn from page (r ∷ rs) low rise =
    one_placed from page r (placed_in rs)
    ∙ one_more from page r rs rise.1 (by_own_lsn from page rs (own_lsn r) rise.1)
    (by_own_lsn from (with_record page r) rs (own_lsn r) rise.1) (is_resumed from page.lsn r) refl

-- ---- a log

rises_from : (rs : List Record) (n : ℕ)
    → ((i : ℕ) (d : Record) → i < length rs → own_lsn (get_or rs i d) ≡ 64 * (n + i + 1)) → Rises (64 * n) rs
rises_from [] n each = tt
rises_from (r ∷ rs) n each =
    let own : own_lsn r ≡ 64 * (n + 0 + 1) = each 0 r (omega arith) in
    let next : 64 * (n + 1) ≡ own_lsn r = omega arith in (
      omega arith,
      subst (λ (low : ℕ). Rises low rs) next (rises_from rs (n + 1) (λ i d lt.
          let at : own_lsn (get_or rs i d) ≡ 64 * (n + suc i + 1) = each (suc i) d (omega arith) in omega arith)),
    )

pub all_resumed : (log : Log) (from : ℕ) (pages : List Page) → IsLog log
    → map (redone_each (placed_in log.records) from) pages ≡ map (λ page. resume page log.records from) pages
all_resumed log from pages valid = over pages
  where
    rise : Rises 0 log.records
    rise = rises_from log.records 0 (λ i d lt. (valid.records i d lt).lsn ∙ omega arith)

    over : (pages : List Page) → map (redone_each (placed_in log.records) from) pages
        ≡ map (λ page. resume page log.records from) pages
    over [] = refl
    over (page ∷ pages) = rw (by_own_lsn from page log.records 0 rise, over pages) refl

-- ---- the changes

-- they are above what their records are above
placed_above : (rs : List Record) (low k : ℕ) (d : Placed) → Rises low rs → k < length (placed_in rs)
    → low < (get_or (placed_in rs) k d).lsn
placed_above [] low k d rise lt = absurd (omega (arith, lt))
placed_above (r ∷ rs) low k d rise lt = by_change (change_of r) k lt (λ n. placed_above rs (own_lsn r) n d rise.1)
  where
    by_change : (o : Option PageChange) (k : ℕ)
        → k < length (cons_option (option_map (placed_at (own_lsn r)) o) (placed_in rs))
        → ((n : ℕ) → n < length (placed_in rs) → own_lsn r < (get_or (placed_in rs) n d).lsn)
        → low < (get_or (cons_option (option_map (placed_at (own_lsn r)) o) (placed_in rs)) k d).lsn
    by_change None k lt rest =
        let above = rest k lt in
        let first = rise.0 in
        omega (arith, above, first)
    by_change (Some c) zero lt rest = rise.0
    by_change (Some c) (suc k) lt rest =
        let above = rest k (omega (arith, lt)) in
        let first = rise.0 in
        omega (arith, above, first)

placed_rise : (rs : List Record) (low : ℕ) → Rises low rs → IsNonDecreasingBy (λ (c : Placed). c.lsn) (placed_in rs)
placed_rise [] low rise i j d le lt = absurd (omega (arith, lt))
placed_rise (r ∷ rs) low rise i j d le lt = by_change (change_of r) i j le lt (placed_rise rs (own_lsn r) rise.1)
  where
    by_change : (o : Option PageChange) (i j : ℕ) → i ≤ j
        → j < length (cons_option (option_map (placed_at (own_lsn r)) o) (placed_in rs))
        → IsNonDecreasingBy (λ (c : Placed). c.lsn) (placed_in rs)
        → (get_or (cons_option (option_map (placed_at (own_lsn r)) o) (placed_in rs)) i d).lsn
        ≤ (get_or (cons_option (option_map (placed_at (own_lsn r)) o) (placed_in rs)) j d).lsn
    by_change None i j le lt rest = rest i j d le lt
    by_change (Some c) zero zero le lt rest = omega arith
    by_change (Some c) zero (suc j) le lt rest =
        let above = placed_above rs (own_lsn r) j d rise.1 (omega (arith, lt)) in
        omega (arith, above)
    by_change (Some c) (suc i) zero le lt rest = absurd (omega (arith, le))
    by_change (Some c) (suc i) (suc j) le lt rest = rest i j d (omega (arith, le)) (omega (arith, lt))

pub changes_rise : (log : Log) → IsLog log → IsNonDecreasingBy (λ (c : Placed). c.lsn) (placed_in log.records)
changes_rise log valid =
    placed_rise log.records 0 (rises_from log.records 0 (λ i d lt. (valid.records i d lt).lsn ∙ omega arith))
