-- Redo by the page's LSN of a page that has the changes of a beginning of the log.
use Rattle.std.proofs.Common.{◌≡◌, ℕ, zero, suc, ◌+◌, ◌*◌, ◌<◌, ◌≤◌, Bool, true, false, cond, List, [], ◌∷◌, ◌++◌, ◌-◌}
use Rattle.std.proofs.Common.{length, get_or, take, refl, sym, ap, subst, ◌∙◌, arith, inl, inr}
use Rattle.std.specs.List.{filter}
use Rattle.std.proofs.lemmas.List.{take_all}
use Rattle.std.proofs.lemmas.Bool.{lt-ltb, le-ltb}
use Rattle.page_core.specs.declared.page.Page.{Page}
use Rattle.page_core.specs.Page.{formatted}
use Rattle.log_records.specs.declared.record.Record.{Record}
use Rattle.log_records.specs.Record.{own_lsn}
use Rattle.log_records.specs.Log.{Log, IsLog, lsn_of}
use Rattle.log_records.specs.Image.{with_record, image_from, image}
use Rattle.page_redo.specs.Redo.{redone}
use Rattle.log_store.specs.PageHistory.{is_above}
use Rattle.log_records.proofs.Public.{changes_or_not, image_from-append, image_from-more, lsn-image}
use Rattle.page_redo.proofs.Redone.{filter-more, redo-more}

-- the first records are not above the LSN of the last of them
none_above : (log : Log) → IsLog log → (i lsn : ℕ) (d : Record) → i ≤ length log.records → 64 * i ≤ lsn
    → filter (is_above lsn) (take i log.records) ≡ []
none_above log valid zero lsn d le reached = refl
none_above log valid (suc i) lsn d le reached =
    let r = get_or log.records i d in
    let own : own_lsn r ≡ lsn_of i = (valid.records i d (omega arith)).lsn in
    let next : i + 1 ≡ suc i = omega arith in
    let not : is_above lsn r ≡ false = le-ltb lsn (own_lsn r) (omega arith) in
    subst (λ (n : ℕ). filter (is_above lsn) (take n log.records) ≡ []) next
    (filter-more lsn log.records i d (omega arith)
    ∙ ap (λ (b : Bool). filter (is_above lsn) (take i log.records) ++ cond b (r ∷ []) []) not
    ∙ ap (λ (rs : List Record). rs ++ []) (none_above log valid i lsn d (omega arith) (omega arith)))

-- the redo of a record that changes nothing
no_page : (page : Page) (r : Record) → with_record page r ≡ page → redone page (r ∷ []) ≡ page
no_page page r same = choose (is_above page.lsn r)
  where
    choose : (b : Bool) → image_from page (cond b (r ∷ []) []) ≡ page
    choose true = same
    choose false = refl

-- redo of the records that the page has changes nothing
redo_of_own : (log : Log) → IsLog log → (p i : ℕ) (d : Record) → i ≤ length log.records
    → redone (image (take i log.records) p) (take i log.records) ≡ image (take i log.records) p
redo_of_own log valid p zero d le = refl
redo_of_own log valid p (suc i) d le =
    let rs = log.records in
    let lt : i < length rs = omega arith in
    let r = get_or rs i d in
    let q = image (take i rs) p in
    let next : i + 1 ≡ suc i = omega arith in
    let own : own_lsn r ≡ lsn_of i = (valid.records i d lt).lsn in
    let here : image (take (i + 1) rs) p ≡ with_record q r = image_from-more (formatted p) rs i d lt in
    subst (λ (n : ℕ). redone (image (take n rs) p) (take n rs) ≡ image (take n rs) p) next
    (subst (λ (page : Page). redone page (take (i + 1) rs) ≡ page) (sym here) (elim (changes_or_not q r) [
      | inl same ↦
          subst (λ (page : Page). redone page (take (i + 1) rs) ≡ page) (sym same)
          (ap (image_from q) (filter-more q.lsn rs i d lt)
          ∙ image_from-append q (filter (is_above q.lsn) (take i rs)) (cond (is_above q.lsn r) (r ∷ []) [])
          ∙ ap (λ (page : Page). image_from page (cond (is_above q.lsn r) (r ∷ []) []))
          (redo_of_own log valid p i d (omega arith))
          ∙ no_page q r same)
      | inr moved ↦
          ap (image_from (with_record q r))
          (none_above log valid (i + 1) (with_record q r).lsn d (omega arith) (omega (arith, moved, own)))
    ]))

-- redo of the records behind those that the page has makes each change
redo_goes_on : (log : Log) → IsLog log → (p k m : ℕ) (d : Record) → k + m ≤ length log.records
    → redone (image (take k log.records) p) (take (k + m) log.records) ≡ image (take (k + m) log.records) p
redo_goes_on log valid p k zero d le =
    let none : k ≡ k + 0 = omega arith in
    subst (λ (n : ℕ). redone (image (take k log.records) p) (take n log.records) ≡ image (take n log.records) p) none
    (redo_of_own log valid p k d (omega arith))
redo_goes_on log valid p k (suc m) d le =
    let rs = log.records in
    let i = k + m in
    let lt : i < length rs = omega arith in
    let r = get_or rs i d in
    let q = image (take k rs) p in
    let next : i + 1 ≡ k + suc m = omega arith in
    let own : own_lsn r ≡ lsn_of i = (valid.records i d lt).lsn in
    let bound : q.lsn ≤ 64 * k = lsn-image log valid p k d (omega arith) in
    let above : is_above q.lsn r ≡ true = lt-ltb q.lsn (own_lsn r) (omega arith) in
    let so_far = image_from q (filter (is_above q.lsn) (take i rs)) in
    subst (λ (n : ℕ). redone q (take n rs) ≡ image (take n rs) p) next
    (redo-more q q.lsn rs i d lt ∙ ap (λ (b : Bool). cond b (with_record so_far r) so_far) above
    ∙ ap (λ (page : Page). with_record page r) (redo_goes_on log valid p k m d (omega arith))
    ∙ sym (image_from-more (formatted p) rs i d lt))

nothing_of_none : (k : ℕ) → take {A = Record} k [] ≡ []
nothing_of_none zero = refl
nothing_of_none (suc k) = refl

pub redo_completes : (log : Log) (count number : ℕ) → IsLog log → count ≤ length log.records
    → redone (image (take count log.records) number) log.records ≡ image log.records number
redo_completes log count number valid le = by_first log.records refl
  where
    by_first : (rs : List Record) → log.records ≡ rs
        → redone (image (take count log.records) number) log.records ≡ image log.records number
    by_first [] e =
        subst (λ (rs : List Record). redone (image (take count rs) number) rs ≡ image rs number) (sym e)
        (ap (λ (rs : List Record). image rs number) (nothing_of_none count))
    by_first (r ∷ rs) e =
        let rest = length log.records - count in
        let all : count + rest ≡ length log.records = omega arith in
        subst (λ (xs : List Record). redone (image (take count log.records) number) xs ≡ image xs number)
        (ap (λ (n : ℕ). take n log.records) all ∙ take_all (length log.records) log.records (omega arith))
        (redo_goes_on log valid number count rest r (omega arith))
