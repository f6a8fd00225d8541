-- The pages that records make, one record after another.
use Rattle.std.proofs.Common.{◌≡◌, ◌≢◌, ℕ, zero, suc, ◌+◌, ◌-◌, ◌*◌, ◌<◌, ◌≤◌, ◌⊎◌, Bool, true, false, cond, eqb, List}
use Rattle.std.proofs.Common.{[], ◌∷◌, ◌++◌, length, get_or, set, take, map, refl, sym, ap, subst, ◌∙◌, arith, inl, inr}
use Rattle.std.specs.Prelude.{Option, Some, None}
use Rattle.std.specs.List.{range_with_len}
use Rattle.std.specs.Option.{option_map_or}
use Rattle.std.proofs.lemmas.List.{get_or-append_right, take_more, same_lists, length-set, length-map, get_or-set_same}
use Rattle.std.proofs.lemmas.List.{get_or-set_other, get_or_default, get_or-map}
use Rattle.std.proofs.lemmas.Bool.{ne_eqb, cases_eq}
use Rattle.std.proofs.lemmas.List.FromFn.{get_or-map-range_with_len, length-map-range_with_len}
use Rattle.page_core.specs.declared.page.Page.{Page}
use Rattle.page_core.specs.Page.{formatted, put}
use Rattle.log_records.specs.declared.page_change.PageChange.{PageChange}
use Rattle.log_records.specs.declared.record.Record.{Record}
use Rattle.log_records.specs.Record.{change_of, own_lsn}
use Rattle.log_records.specs.Log.{Log, IsLog, lsn_of}
use Rattle.log_records.specs.Image.{AreNumbered, image, image_from, redo_all, with_change, with_record}

-- ---- one record on one page

-- what holds of the page, and of it with the record's change, holds after the record
pub with_record-has : (P : Page → Type 0) (page : Page) (r : Record) → P page
    → ((c : PageChange) → change_of r ≡ Some c → P (put page (own_lsn r) c.slot c.change)) → P (with_record page r)
with_record-has P page r same made = by_change (change_of r) refl
  where
    on_page : (c : PageChange) → change_of r ≡ Some c → (b : Bool)
        → P (cond b (put page (own_lsn r) c.slot c.change) page)
    on_page c e true = made c e
    on_page c e false = same

    by_change : (o : Option PageChange) → change_of r ≡ o → P (option_map_or (with_change page (own_lsn r)) o page)
    by_change None e = same
    by_change (Some c) e = on_page c e (eqb c.page page.number)

-- a record changes the page, which then has its LSN, or does not
pub changes_or_not : (page : Page) (r : Record) → (with_record page r ≡ page) ⊎ ((with_record page r).lsn ≡ own_lsn r)
changes_or_not page r = with_record-has (λ q. (q ≡ page) ⊎ (q.lsn ≡ own_lsn r)) page r (inl refl) (λ c e. inr refl)

-- a record that makes no change leaves the page
pub no_change : (page : Page) (r : Record) → change_of r ≡ None → with_record page r ≡ page
no_change page r e = ap (λ (o : Option PageChange). option_map_or (with_change page (own_lsn r)) o page) e

-- and so does one that changes another
pub other_page : (page : Page) (r : Record) (c : PageChange) → change_of r ≡ Some c → c.page ≢ page.number
    → with_record page r ≡ page
other_page page r c e other =
    ap (λ (o : Option PageChange). option_map_or (with_change page (own_lsn r)) o page) e
    ∙ ap (λ (b : Bool). cond b (put page (own_lsn r) c.slot c.change) page) (ne_eqb c.page page.number other)

pub number-with_record : (page : Page) (r : Record) → (with_record page r).number ≡ page.number
number-with_record page r = with_record-has (λ q. q.number ≡ page.number) page r refl (λ c e. refl)

lsn-with_record : (page : Page) (r : Record) (n : ℕ) → page.lsn ≤ n → own_lsn r ≤ n → (with_record page r).lsn ≤ n
lsn-with_record page r n before own = with_record-has (λ q. q.lsn ≤ n) page r before (λ c e. own)

-- ---- records one after another

pub image_from-append : (page : Page) (xs ys : List Record)
    → image_from page (xs ++ ys) ≡ image_from (image_from page xs) ys
image_from-append page [] ys = refl
image_from-append page (x ∷ xs) ys = image_from-append (with_record page x) xs ys

-- one record more
pub image_from-more : (page : Page) (rs : List Record) (i : ℕ) (d : Record) → i < length rs
    → image_from page (take (i + 1) rs) ≡ with_record (image_from page (take i rs)) (get_or rs i d)
image_from-more page rs i d lt = ap (image_from page) (take_more rs i d lt)
    ∙ image_from-append page (take i rs) (get_or rs i d ∷ [])

pub number-image_from : (page : Page) (rs : List Record) → (image_from page rs).number ≡ page.number
number-image_from page [] = refl
number-image_from page (r ∷ rs) = number-image_from (with_record page r) rs ∙ number-with_record page r

pub number-image : (rs : List Record) (p : ℕ) → (image rs p).number ≡ p
unfolding formatted
number-image rs p = number-image_from (formatted p) rs

-- a page has no LSN past those of the log's records so far
pub lsn-image : (log : Log) → IsLog log → (p : ℕ) (i : ℕ) (d : Record) → i ≤ length log.records
    → (image (take i log.records) p).lsn ≤ 64 * i
unfolding formatted
lsn-image log valid p zero d le = omega arith
lsn-image log valid p (suc i) d le =
    let lt : i < length log.records = omega arith in
    let r = get_or log.records i d in
    let own : own_lsn r ≡ lsn_of i = (valid.records i d lt).lsn in
    let before = lsn-image log valid p i d (omega arith) in
    let step = lsn-with_record (image (take i log.records) p) r (64 * suc i) (omega arith) (omega arith) in
    let here : image (take (i + 1) log.records) p ≡ with_record (image (take i log.records) p) r =
    image_from-more (formatted p) log.records i d lt in
    let next : i + 1 ≡ suc i = omega arith in
    subst (λ n. (image (take n log.records) p).lsn ≤ 64 * suc i) next
    (subst (λ (q : Page). q.lsn ≤ 64 * suc i) (sym here) step)

-- ---- the volume

-- the pages stand in order of their numbers
pub numbered : (rs : List Record) (n k : ℕ) (d : Page) → k < n → (get_or (redo_all rs n) k d).number ≡ k
numbered rs n k d lt =
    ap (λ (page : Page). page.number) (get_or-map-range_with_len (image rs) 0 n k k d lt (omega arith))
    ∙ number-image rs k

pub length-redo_all : (rs : List Record) (n : ℕ) → length (redo_all rs n) ≡ n
length-redo_all rs n = length-map-range_with_len (image rs) 0 n

pub numbered-redo_all : (rs : List Record) (n : ℕ) → AreNumbered (redo_all rs n)
numbered-redo_all rs n = λ k d lt. numbered rs n k d (omega (arith, length-redo_all rs n))

-- no record, on every page
pub images-none : (pages : List Page) → pages ≡ map (λ page. image_from page []) pages
images-none [] = refl
images-none (page ∷ pages) = ap (λ (rest : List Page). page ∷ rest) (images-none pages)

-- one record more, on every page
pub images-more : (pages : List Page) (rs : List Record) (i : ℕ) (d : Record) → i < length rs
    → map (λ page. with_record page (get_or rs i d)) (map (λ page. image_from page (take i rs)) pages)
    ≡ map (λ page. image_from page (take (i + 1) rs)) pages
images-more [] rs i d lt = refl
images-more (page ∷ pages) rs i d lt = rw (image_from-more page rs i d lt, images-more pages rs i d lt) refl

pub numbered-images : (pages : List Page) (rs : List Record) → AreNumbered pages
    → AreNumbered (map (λ page. image_from page rs) pages)
numbered-images pages rs numbers = λ k d lt.
    let below : k < length pages = omega (arith, length-map pages (λ page. image_from page rs)) in
    ap (λ (page : Page). page.number) (get_or-map (λ page. image_from page rs) pages k d d below)
    ∙ number-image_from (get_or pages k d) rs ∙ numbers k d below

pub redo_all-append : (rs next : List Record) (n : ℕ)
    → map (λ page. image_from page next) (redo_all rs n) ≡ redo_all (rs ++ next) n
redo_all-append rs next n = over (range_with_len 0 n)
  where
    over : (ps : List ℕ) → map (λ page. image_from page next) (map (image rs) ps) ≡ map (image (rs ++ next)) ps
    over [] = refl
    over (p ∷ ps) = rw (image_from-append (formatted p) rs next, over ps) refl

-- a record that makes no change leaves all pages
pub none_changed : (pages : List Page) (r : Record) → change_of r ≡ None
    → pages ≡ map (λ page. with_record page r) pages
none_changed [] r e = refl
none_changed (page ∷ pages) r e = rw (no_change page r e, ← none_changed pages r e) refl

-- one that does changes the page that it names, and no other
pub one_changed : (pages : List Page) (r : Record) (c : PageChange) (d : Page) → change_of r ≡ Some c
    → c.page < length pages → AreNumbered pages
    → set pages c.page (with_record (get_or pages c.page d) r) ≡ map (λ page. with_record page r) pages
one_changed pages r c d e lt numbers =
    let step = λ (page : Page). with_record page r in
    let number = c.page in
    let done = set pages number (step (get_or pages number d)) in
    same_lists done (map step pages) (length-set pages number _ ∙ sym (length-map pages step)) (λ k x below.
    let below' : k < length pages = omega (arith, length-set pages number (step (get_or pages number d))) in
    elim (cases_eq k number) [
      | inl same ↦
          ap (λ n. get_or done n x) same ∙ get_or-set_same pages number (step (get_or pages number d)) x lt
          ∙ ap step (get_or_default pages number d x lt) ∙ ap (λ n. step (get_or pages n x)) (sym same)
          ∙ sym (get_or-map step pages k x x below')
      | inr other ↦
          let apart : number ≢ (get_or pages k x).number = λ same. other (sym (same ∙ numbers k x below')) in
          get_or-set_other pages number k (step (get_or pages number d)) x other
          ∙ sym (get_or-map step pages k x x below' ∙ other_page (get_or pages k x) r c e apart)
    ])

-- a record of those behind others
pub behind : (rs next : List Record) (i : ℕ) (d : Record) → get_or next i d ≡ get_or (rs ++ next) (length rs + i) d
behind rs next i d =
    let back : length rs + i - length rs ≡ i = omega arith in
    sym (get_or-append_right rs next (length rs) (length rs + i) d refl (omega arith) ∙ ap (λ n. get_or next n d) back)
