-- Redo of a log on the pages of a volume, record by record, and what it comes to on each page.
use Rattle.std.proofs.Common.{◌≡◌, ◌≢◌, ℕ, zero, suc, ◌+◌, ◌-◌, ◌*◌, ◌<◌, ◌≤◌, Bool, true, false, cond, List, [], ◌∷◌}
use Rattle.std.proofs.Common.{◌++◌}
use Rattle.std.proofs.Common.{length, get_or, set, map, take, drop, refl, sym, ap, subst, ◌∙◌, arith, inl, inr, min}
use Rattle.std.specs.Prelude.{Some, None, ◌&&◌}
use Rattle.std.specs.List.{All, filter}
use Rattle.std.proofs.lemmas.Bool.{cases_eq, cases_lt, le-leb, lt-leb, lt-ltb, le-ltb}
use Rattle.std.proofs.lemmas.List.{get_or-map, get_or-set_other, get_or-set_same, get_or_default, get_or-drop}
use Rattle.std.proofs.lemmas.List.{length-map, length-set, length-drop}
use Rattle.std.proofs.lemmas.List.{get_or-take, length-take, same_lists, take-append-drop, take_more}
use Rattle.std.proofs.lemmas.List.Sums.{fold-append}
use Rattle.std.proofs.lemmas.List.Elements.{All-head, All-tail, filter-append}
use Rattle.page_core.specs.declared.page.Page.{Page}
use Rattle.page_core.specs.Volume.{AreNumbered}
use Rattle.log_records.specs.declared.page_change.PageChange.{PageChange}
use Rattle.log_records.specs.declared.record.Record.{Record}
use Rattle.log_records.specs.Coverage.{is_resumed, resume}
use Rattle.log_records.specs.Image.{image_from, with_record}
use Rattle.log_records.specs.Log.{AreWithin, IsLog, Log, lsn_of, page_count}
use Rattle.log_records.specs.Record.{change_of, own_lsn}
use Rattle.log_records.proofs.Public.{stands_in}
use Rattle.log_records.proofs.Public.{changes_or_not, no_change, number-with_record, other_page}
use Rattle.page_redo.specs.Redo.{redone, redone_all, redone_by}
use Rattle.log_store.specs.PageHistory.{is_above}

-- ---- one record

same_by_test : (b : Bool) (page : Page) (r : Record) → with_record page r ≡ page
    → cond b (with_record page r) page ≡ page
same_by_test true page r e = e
same_by_test false page r e = refl

number-redone_by : (page : Page) (r : Record) → (redone_by page r).number ≡ page.number
number-redone_by page r = by_test (is_above page.lsn r)
  where
    by_test : (b : Bool) → (cond b (with_record page r) page).number ≡ page.number
    by_test true = number-with_record page r
    by_test false = refl

pub none_redone : (pages : List Page) (r : Record) → change_of r ≡ None
    → pages ≡ map (λ page. redone_by page r) pages
none_redone [] r e = refl
none_redone (page ∷ pages) r e =
    rw (same_by_test (is_above page.lsn r) page r (no_change page r e), ← none_redone pages r e) refl

pub one_redone : (pages : List Page) (r : Record) (c : PageChange) (d : Page) → change_of r ≡ Some c
    → c.page < length pages → AreNumbered pages
    → set pages c.page (redone_by (get_or pages c.page d) r) ≡ map (λ page. redone_by page r) pages
one_redone pages r c d e lt numbers =
    let step = λ (page : Page). redone_by page r in
    let number = c.page in
    let done = set pages number (step (get_or pages number d)) in
    same_lists done (map step pages) (length-set pages number _ ∙ sym (length-map pages step)) (λ k x below.
    let below' : k < length pages = omega (arith, length-set pages number (step (get_or pages number d))) in
    elim (cases_eq k number) [
      | inl same ↦
          ap (λ n. get_or done n x) same ∙ get_or-set_same pages number (step (get_or pages number d)) x lt
          ∙ ap step (get_or_default pages number d x lt) ∙ ap (λ n. step (get_or pages n x)) (sym same)
          ∙ sym (get_or-map step pages k x x below')
      | inr other ↦
          let apart : number ≢ (get_or pages k x).number = λ same. other (sym (same ∙ numbers k x below')) in
          let page = get_or pages k x in
          get_or-set_other pages number k (step (get_or pages number d)) x other
          ∙ sym (get_or-map step pages k x x below'
          ∙ same_by_test (is_above page.lsn r) page r (other_page page r c e apart))
    ])

pub number-pages : (pages : List Page) (r : Record) → AreNumbered pages
    → AreNumbered (map (λ page. redone_by page r) pages)
number-pages pages r numbers = λ k d lt.
    let below : k < length pages = omega (arith, length-map pages (λ page. redone_by page r)) in
    let page = get_or pages k d in
    ap (λ (q : Page). q.number) (get_or-map (λ page. redone_by page r) pages k d d below)
    ∙ number-redone_by page r ∙ numbers k d below

-- ---- one record after another

-- the records' LSNs rise, and are all above one
abbrev Rises : ℕ → List Record → Type 0
Rises low [] = Unit {0}
Rises low (r ∷ rs) = (low < own_lsn r) × Rises (own_lsn r) rs

all_above : (rs : List Record) (low lsn : ℕ) → lsn ≤ low → Rises low rs → filter (is_above lsn) rs ≡ rs
all_above [] low lsn le rise = refl
all_above (r ∷ rs) low lsn le rise =
    let first = rise.0 in
    ap (λ (b : Bool). cond b (r ∷ filter (is_above lsn) rs) (filter (is_above lsn) rs))
    (lt-ltb lsn (own_lsn r) (omega arith))
    ∙ ap (λ (xs : List Record). r ∷ xs) (all_above rs (own_lsn r) lsn (omega arith) rise.1)

-- the LSN of a page after a record that is above it is at most the record's
moves_up : (page : Page) (r : Record) → page.lsn < own_lsn r → (with_record page r).lsn ≤ own_lsn r
moves_up page r lt = elim (changes_or_not page r) [
  | inl same ↦ let is = ap (λ (q : Page). q.lsn) same in omega arith
  | inr moved ↦ omega arith
]

by_own_lsn : (page : Page) (rs : List Record) (low : ℕ) → Rises low rs
    → redone_all page rs ≡ image_from page (filter (is_above page.lsn) rs)
by_own_lsn page [] low rise = refl
by_own_lsn page (r ∷ rs) low rise = elim (cases_lt page.lsn (own_lsn r)) [
  | inl lt ↦
      let test : is_above page.lsn r ≡ true = lt-ltb page.lsn (own_lsn r) lt in
      let next = with_record page r in
      let up = moves_up page r lt in
      ap (λ (b : Bool). redone_all (cond b next page) rs) test
      ∙ by_own_lsn next rs (own_lsn r) rise.1
      ∙ ap (image_from next) (all_above rs (own_lsn r) next.lsn up rise.1
      ∙ sym (all_above rs (own_lsn r) page.lsn (omega arith) rise.1))
      ∙ ap (λ (b : Bool). image_from page (cond b (r ∷ filter (is_above page.lsn) rs) (filter (is_above page.lsn) rs)))
      (sym test)
  | inr le ↦
      let test : is_above page.lsn r ≡ false = le-ltb page.lsn (own_lsn r) le in
      ap (λ (b : Bool). redone_all (cond b (with_record page r) page) rs) test
      ∙ by_own_lsn page rs (own_lsn r) rise.1
      ∙ ap (λ (b : Bool). image_from page (cond b (r ∷ filter (is_above page.lsn) rs) (filter (is_above page.lsn) rs)))
      (sym test)
]

-- ---- the records from a redo point on

rises_from : (log : Log) → IsLog log → (k : ℕ) (rs : List Record) → rs ≡ drop k log.records → Rises (64 * k) rs
rises_from log valid k [] e = tt
rises_from log valid k (r ∷ rs) e =
    let all = log.records in
    let long : length (r ∷ rs) ≡ length all - k = ap length e ∙ length-drop k all in
    let there : k < length all = omega arith in
    let first : r ≡ get_or all k r =
    ap (λ (xs : List Record). get_or xs 0 r) e ∙ get_or-drop k all 0 r ∙ ap (λ n. get_or all n r) (omega arith) in
    let own : own_lsn r ≡ lsn_of k = ap own_lsn first ∙ (valid.records k r there).lsn in
    let rest : rs ≡ drop (k + 1) all = drop_next all k r rs (sym e) in
    let up = rises_from log valid (k + 1) rs rest in (
      omega arith,
      subst (λ (n : ℕ). Rises n rs) (sym own) up,
    )
  where
    drop_next : (xs : List Record) (k : ℕ) (y : Record) (ys : List Record) → drop k xs ≡ y ∷ ys → ys ≡ drop (k + 1) xs
    drop_next [] zero y ys e = cc
    drop_next [] (suc k) y ys e = cc
    drop_next (x ∷ xs) zero y ys e = sym (ap (λ (l : List Record). drop 1 l) e)
    drop_next (x ∷ xs) (suc k) y ys e =
        let more : suc k + 1 ≡ suc (k + 1) = omega arith in
        subst (λ (n : ℕ). ys ≡ drop n (x ∷ xs)) (sym more) (drop_next xs k y ys e)

none_below : (rs : List Record) (from lsn : ℕ) → All (λ r. own_lsn r < from) rs → filter (is_resumed from lsn) rs ≡ []
none_below [] from lsn all = refl
none_below (r ∷ rs) from lsn all =
    ap (λ (b : Bool). cond (b && is_above lsn r) (r ∷ filter (is_resumed from lsn) rs)
    (filter (is_resumed from lsn) rs))
    (lt-leb from (own_lsn r) (All-head (λ r. own_lsn r < from) r rs all))
    ∙ none_below rs from lsn (All-tail (λ r. own_lsn r < from) r rs all)

same_above : (rs : List Record) (from lsn : ℕ) → All (λ r. from ≤ own_lsn r) rs
    → filter (is_resumed from lsn) rs ≡ filter (is_above lsn) rs
same_above [] from lsn all = refl
same_above (r ∷ rs) from lsn all =
    ap (λ (b : Bool). cond (b && is_above lsn r) (r ∷ filter (is_resumed from lsn) rs)
    (filter (is_resumed from lsn) rs))
    (le-leb from (own_lsn r) (All-head (λ r. from ≤ own_lsn r) r rs all))
    ∙ ap (λ (xs : List Record). cond (is_above lsn r) (r ∷ xs) xs)
    (same_above rs from lsn (All-tail (λ r. from ≤ own_lsn r) r rs all))

-- redo of the records from a place on is redo from a point that is no later than the first of them
pub behind_is_resumed : (log : Log) (from k : ℕ) (page : Page) → IsLog log → 64 * k ≤ from - 1
    → k ≤ length log.records → (k < length log.records → from ≤ 64 * (k + 1))
    → redone page (drop k log.records) ≡ resume page log.records from
behind_is_resumed log from k page valid low le high =
    let rs = log.records in
    let lsn = page.lsn in
    let before : All (λ r. own_lsn r < from) (take k rs) = λ i d lt.
    let small : i < k = omega (arith, length-take k rs) in
    let own : own_lsn (get_or rs i d) ≡ lsn_of i = (valid.records i d (omega arith)).lsn in
    let at : get_or (take k rs) i d ≡ get_or rs i d = get_or-take k rs i d small in
    let is : own_lsn (get_or (take k rs) i d) ≡ lsn_of i = ap own_lsn at ∙ own in
    omega arith in
    let behind : All (λ r. from ≤ own_lsn r) (drop k rs) = λ i d lt.
    let there : k + i < length rs = omega (arith, length-drop k rs) in
    let is : own_lsn (get_or (drop k rs) i d) ≡ lsn_of (k + i) =
    ap own_lsn (get_or-drop k rs i d) ∙ (valid.records (k + i) d there).lsn in
    let up = high (omega arith) in
    omega arith in
    ap (image_from page) (sym (same_above (drop k rs) from lsn behind)
    ∙ ap (λ (xs : List Record). xs ++ filter (is_resumed from lsn) (drop k rs))
    (sym (none_below (take k rs) from lsn before))
    ∙ sym (filter-append (is_resumed from lsn) (take k rs) (drop k rs))
    ∙ ap (filter (is_resumed from lsn)) (take-append-drop k rs))

pub resumed : (log : Log) (from k : ℕ) (page : Page) → IsLog log → 64 * k ≤ from - 1 → from ≤ 64 * (k + 1)
    → k ≤ length log.records → redone_all page (drop k log.records) ≡ resume page log.records from
resumed log from k page valid low high le =
    by_own_lsn page (drop k log.records) (64 * k) (rises_from log valid k (drop k log.records) refl)
    ∙ behind_is_resumed log from k page valid low le (λ there. high)

-- ---- all pages, record by record

pub none_yet : (pages : List Page) → pages ≡ map (λ page. redone_all page []) pages
none_yet [] = refl
none_yet (page ∷ pages) = ap (λ (ps : List Page). page ∷ ps) (none_yet pages)

redone_more : (page : Page) (rs : List Record) (i : ℕ) (d : Record) → i < length rs
    → redone_by (redone_all page (take i rs)) (get_or rs i d) ≡ redone_all page (take (i + 1) rs)
redone_more page rs i d lt =
    sym (ap (redone_all page) (take_more rs i d lt) ∙ fold-append redone_by page (take i rs) (get_or rs i d ∷ []))

pub each_more : (pages : List Page) (rs : List Record) (i : ℕ) (d : Record) → i < length rs
    → map (λ page. redone_by page (get_or rs i d)) (map (λ page. redone_all page (take i rs)) pages)
    ≡ map (λ page. redone_all page (take (i + 1) rs)) pages
each_more [] rs i d lt = refl
each_more (page ∷ pages) rs i d lt = rw (redone_more page rs i d lt, each_more pages rs i d lt) refl

pub numbered_more : (pages : List Page) (rs : List Record) → AreNumbered pages
    → AreNumbered (map (λ page. redone_all page rs) pages)
numbered_more pages rs numbers = λ k d lt.
    let below : k < length pages = omega (arith, length-map pages (λ page. redone_all page rs)) in
    let page = get_or pages k d in
    ap (λ (q : Page). q.number) (get_or-map (λ page. redone_all page rs) pages k d d below)
    ∙ number-redone_all page rs ∙ numbers k d below
  where
    number-redone_all : (page : Page) (rs : List Record) → (redone_all page rs).number ≡ page.number
    number-redone_all page [] = refl
    number-redone_all page (r ∷ rs) = number-redone_all (redone_by page r) rs ∙ number-redone_by page r

pub all_resumed : (log : Log) (from k : ℕ) (pages : List Page) → IsLog log → 64 * k ≤ from - 1 → from ≤ 64 * (k + 1)
    → k ≤ length log.records
    → map (λ page. redone_all page (drop k log.records)) pages ≡ map (λ page. resume page log.records from) pages
all_resumed log from k [] valid low high le = refl
all_resumed log from k (page ∷ pages) valid low high le =
    rw (resumed log from k page valid low high le, all_resumed log from k pages valid low high le) refl

-- no record is at or above the redo point
pub none_resumed : (log : Log) (from : ℕ) (pages : List Page) → IsLog log → 64 * length log.records ≤ from - 1
    → pages ≡ map (λ page. resume page log.records from) pages
none_resumed log from [] valid low = refl
none_resumed log from (page ∷ pages) valid low =
    let rs = log.records in
    let before : All (λ r. own_lsn r < from) rs = λ i d lt.
    let own : own_lsn (get_or rs i d) ≡ lsn_of i = (valid.records i d lt).lsn in omega arith in
    rw (none_below rs from page.lsn before, ← none_resumed log from pages valid low) refl

pub within_part : (log : Log) (k : ℕ) → IsLog log
    → AreWithin (page_count log) (take (length log.records - k) (drop k log.records))
within_part log k valid = λ i d lt.
    let rs = log.records in
    let n = length rs - k in
    let long : length (take n (drop k rs)) ≡ min n (length rs - k) = length-take n (drop k rs)
    ∙ ap (min n) (length-drop k rs) in
    let below : i < n = omega arith in
    rw (get_or-take n (drop k rs) i d below, get_or-drop k rs i d) (stands_in log valid (k + i) d (omega arith)).within

-- the records below the redo point may be left out
pub resumed_behind : (log : Log) (from k : ℕ) (pages : List Page) → IsLog log → 64 * k ≤ from - 1
    → k ≤ length log.records
    → map (λ page. resume page (drop k log.records) from) pages ≡ map (λ page. resume page log.records from) pages
resumed_behind log from k [] valid low le = refl
resumed_behind log from k (page ∷ pages) valid low le =
    let rs = log.records in
    let before : All (λ r. own_lsn r < from) (take k rs) = λ i d lt.
    let small : i < k = omega (arith, length-take k rs) in
    let own : own_lsn (get_or rs i d) ≡ lsn_of i = (valid.records i d (omega arith)).lsn in
    let at : get_or (take k rs) i d ≡ get_or rs i d = get_or-take k rs i d small in
    let is : own_lsn (get_or (take k rs) i d) ≡ lsn_of i = ap own_lsn at ∙ own in
    omega arith in
    let same : filter (is_resumed from page.lsn) (drop k rs) ≡ filter (is_resumed from page.lsn) rs =
    ap (λ (xs : List Record). xs ++ filter (is_resumed from page.lsn) (drop k rs))
    (sym (none_below (take k rs) from page.lsn before))
    ∙ sym (filter-append (is_resumed from page.lsn) (take k rs) (drop k rs))
    ∙ ap (filter (is_resumed from page.lsn)) (take-append-drop k rs) in
    ap (λ (xs : List Record). image_from page xs ∷ map (λ page. resume page (drop k rs) from) pages) same
    ∙ ap (λ (ps : List Page). resume page rs from ∷ ps) (resumed_behind log from k pages valid low le)

-- ---- a log whose records were handed out

pub valid_of : (log : Log) (rs : List Record) → rs ≡ log.records → IsLog log → IsLog (record log { records = rs })
valid_of log rs records valid = subst (λ (xs : List Record). IsLog (record log { records = xs })) (sym records) valid

pub count_of : (log : Log) (rs : List Record) → rs ≡ log.records → page_count (record log { records = rs }) ≡ page_count log
count_of log rs records = ap (λ (xs : List Record). page_count (record log { records = xs })) records
