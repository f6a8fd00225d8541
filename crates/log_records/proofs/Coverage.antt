-- Which changes of a log a page has that was kept elsewhere meanwhile.
use Rattle.std.proofs.Common.{◌≡◌, ℕ, zero, suc, ◌+◌, ◌*◌, ◌/◌, ◌<◌, ◌≤◌, Bool, true, false, cond, List, [], ◌∷◌, ◌++◌}
use Rattle.std.proofs.Common.{length, get_or, take, drop, map, refl, sym, ap, subst, ◌∙◌, arith, inl, inr, min}
use Rattle.std.specs.Prelude.{Option, Some, None, nat_le, nat_lt, ◌&&◌, ◌==◌, if◌then◌else◌}
use Rattle.std.specs.List.{All, Contains, filter}
use Rattle.std.specs.Option.{option_map_or, unwrap_or}
use Rattle.std.proofs.lemmas.List.{append-nil, get_or-drop, length-append, length-drop, map-append, take-append-drop}
use Rattle.std.proofs.lemmas.List.{take-append-le, take_all}
use Rattle.std.proofs.lemmas.List.Elements.{All-append, All-cons, All-head, All-more, All-nil, All-tail, All-weaker}
use Rattle.std.proofs.lemmas.List.Elements.{All-contains_itself, All-filter, filter-append, filter_passes}
use Rattle.std.proofs.lemmas.Bool.{cases_lt, le-leb, le-ltb, lt-leb, lt-ltb, ltb-false, ltb-true}
use Rattle.page_core.specs.declared.page.Page.{Page}
use Rattle.page_core.specs.Page.{formatted, put}
use Rattle.log_records.specs.declared.page_change.PageChange.{PageChange}
use Rattle.log_records.specs.declared.record.Record.{Record}
use Rattle.log_records.specs.declared.record.Record.TheVariants.{Begin}
use Rattle.log_records.specs.Image.{image, image_from, with_change, with_record}
use Rattle.log_records.specs.Log.{IsLog, Log, lsn_of}
use Rattle.log_records.specs.Record.{change_of, own_lsn}
use Rattle.log_records.specs.Least.{least}
use Rattle.log_records.proofs.Images.{image_from-append, image_from-more, lsn-image, number-image, number-with_record}
use Rattle.log_records.specs.Coverage.{Covers, IsPast, changes, changes_on, is_resumed, rec_lsn, resume, up_to}

-- ---- a record that changes the page, and one that does not

same-by : (o : Option PageChange) (page : Page) (lsn : ℕ) → option_map_or (λ c. c.page == page.number) o false ≡ false
    → option_map_or (with_change page lsn) o page ≡ page
same-by None page lsn e = refl
same-by (Some c) page lsn e = ap (λ (b : Bool). cond b (put page lsn c.slot c.change) page) e

moved-by : (o : Option PageChange) (page : Page) (lsn : ℕ) → option_map_or (λ c. c.page == page.number) o false ≡ true
    → (option_map_or (with_change page lsn) o page).lsn ≡ lsn
moved-by None page lsn e = cc
moved-by (Some c) page lsn e = ap (λ (b : Bool). (cond b (put page lsn c.slot c.change) page).lsn) e

pub same_page : (page : Page) (r : Record) → changes page.number r ≡ false → with_record page r ≡ page
same_page page r e = same-by (change_of r) page (own_lsn r) e

pub moved_page : (page : Page) (r : Record) → changes page.number r ≡ true → (with_record page r).lsn ≡ own_lsn r
moved_page page r e = moved-by (change_of r) page (own_lsn r) e

-- ---- an image's LSN names the records that it is made of

-- a record more, on the page that a log makes
pub image-same : (rs : List Record) (p k : ℕ) (d : Record) → k < length rs → changes p (get_or rs k d) ≡ false
    → image (take (k + 1) rs) p ≡ image (take k rs) p
image-same rs p k d lt e =
    let before = image (take k rs) p in
    let same : changes before.number (get_or rs k d) ≡ false =
    ap (λ (n : ℕ). changes n (get_or rs k d)) (number-image (take k rs) p) ∙ e in
    image_from-more (formatted p) rs k d lt ∙ same_page before (get_or rs k d) same

pub image-moved : (rs : List Record) (p k : ℕ) (d : Record) → k < length rs → changes p (get_or rs k d) ≡ true
    → (image (take (k + 1) rs) p).lsn ≡ own_lsn (get_or rs k d)
image-moved rs p k d lt e =
    let before = image (take k rs) p in
    let moved : changes before.number (get_or rs k d) ≡ true =
    ap (λ (n : ℕ). changes n (get_or rs k d)) (number-image (take k rs) p) ∙ e in
    ap (λ (q : Page). q.lsn) (image_from-more (formatted p) rs k d lt) ∙ moved_page before (get_or rs k d) moved

abbrev IsNamed : List Record → ℕ → ℕ → Type 0
IsNamed rs p k = image (take k rs) p ≡ image (up_to rs (image (take k rs) p).lsn) p

steps_in : (n : ℕ) → 64 * (n + 1) / 64 ≡ n + 1
steps_in n = omega arith

named : (log : Log) → IsLog log → (p k : ℕ) (d : Record) → k ≤ length log.records → IsNamed log.records p k
unfolding formatted
named log valid p zero d le = refl
named log valid p (suc k) d le =
    let rs = log.records in
    let lt : k < length rs = omega arith in
    let next : k + 1 ≡ suc k = omega arith in
    let by_change : (b : Bool) → changes p (get_or rs k d) ≡ b
    → IsNamed rs p (k + 1) = λ b. elim b as (λ (b : Bool). changes p (get_or rs k d) ≡ b → IsNamed rs p (k + 1)) [
      | true ↦ λ e.
          let lsn : (image (take (k + 1) rs) p).lsn ≡ 64 * (k + 1) =
          image-moved rs p k d lt e ∙ (valid.records k d lt).lsn in
          ap (λ (n : ℕ). image (take n rs) p) (sym (ap (λ (l : ℕ). l / 64) lsn ∙ steps_in k))
      | false ↦ λ e.
          let same = image-same rs p k d lt e in
          same ∙ named log valid p k d (omega arith) ∙ ap (λ (q : Page). image (up_to rs q.lsn) p) (sym same)
    ] in
    subst (λ (n : ℕ). IsNamed rs p n) next (by_change (changes p (get_or rs k d)) refl)

pub past_is_named : (log : Log) (p : ℕ) (page : Page) → IsLog log → IsPast log.records p page
    → page ≡ image (up_to log.records page.lsn) p
past_is_named log p page valid past =
    past.made ∙ named log valid p past.count (Begin 0 0) past.within
    ∙ ap (λ (q : Page). image (up_to log.records q.lsn) p) (sym past.made)

-- ---- what each change of a page is said to be

pub at_each : (P : ℕ → Type 0) (p : ℕ) (rs : List Record) → All P (changes_on rs p)
    → All (λ r. changes p r ≡ true → P (own_lsn r)) rs
at_each P p [] all = All-nil (λ r. changes p r ≡ true → P (own_lsn r))
at_each P p (r ∷ rs) all = by_change (at_each P p rs) (changes p r) refl
  where
    by_change : (All P (changes_on rs p) → All (λ r. changes p r ≡ true → P (own_lsn r)) rs)
        → (b : Bool) → changes p r ≡ b → All (λ r. changes p r ≡ true → P (own_lsn r)) (r ∷ rs)
    by_change rest true e =
        let here : All P (own_lsn r ∷ changes_on rs p) =
        subst (λ (b : Bool). All P (map own_lsn (cond b (r ∷ filter (changes p) rs) (filter (changes p) rs)))) e all in
        All-cons (λ r. changes p r ≡ true → P (own_lsn r)) r rs (λ same. All-head P (own_lsn r) (changes_on rs p) here)
        (rest (All-tail P (own_lsn r) (changes_on rs p) here))
    by_change rest false e =
        let here : All P (changes_on rs p) =
        subst (λ (b : Bool). All P (map own_lsn (cond b (r ∷ filter (changes p) rs) (filter (changes p) rs)))) e all in
        All-cons (λ r. changes p r ≡ true → P (own_lsn r)) r rs (λ moved. cc) (rest here)

pub of_each : (P : ℕ → Type 0) (p : ℕ) (rs : List Record) → All (λ r. changes p r ≡ true → P (own_lsn r)) rs
    → All P (changes_on rs p)
of_each P p [] all = All-nil P
of_each P p (r ∷ rs) all =
    by_change (of_each P p rs (All-tail (λ r. changes p r ≡ true → P (own_lsn r)) r rs all)) (changes p r) refl
  where
    by_change : All P (changes_on rs p) → (b : Bool) → changes p r ≡ b → All P (changes_on (r ∷ rs) p)
    by_change rest true e =
        subst (λ (b : Bool). All P (map own_lsn (cond b (r ∷ filter (changes p) rs) (filter (changes p) rs)))) (sym e)
        (All-cons P (own_lsn r) (changes_on rs p)
        (All-head (λ r. changes p r ≡ true → P (own_lsn r)) r rs all e) rest)
    by_change rest false e =
        subst (λ (b : Bool). All P (map own_lsn (cond b (r ∷ filter (changes p) rs) (filter (changes p) rs)))) (sym e)
        rest

-- ---- records that do not change the page do not matter

skipped : (page : Page) (r : Record) (rs : List Record) (b : Bool) → with_record page r ≡ page
    → image_from page (cond b (r ∷ rs) rs) ≡ image_from page rs
skipped page r rs true e = ap (λ (q : Page). image_from q rs) e
skipped page r rs false e = refl

redone : (page : Page) (r : Record) (xs ys : List Record) (b : Bool) → image_from page xs ≡ image_from page ys
    → image_from (with_record page r) xs ≡ image_from (with_record page r) ys
    → image_from page (cond b (r ∷ xs) xs) ≡ image_from page (cond b (r ∷ ys) ys)
redone page r xs ys true left_out taken = taken
redone page r xs ys false left_out taken = left_out

pub same_redo : (f g : Record → Bool) (p : ℕ) (rs : List Record) (page : Page) → page.number ≡ p
    → All (λ r. changes p r ≡ true → f r ≡ g r) rs → image_from page (filter f rs) ≡ image_from page (filter g rs)
same_redo f g p [] page number all = refl
same_redo f g p (r ∷ rs) page number all =
    let rest = All-tail (λ r. changes p r ≡ true → f r ≡ g r) r rs all in
    by_change (same_redo f g p rs page number rest)
    (same_redo f g p rs (with_record page r) (number-with_record page r ∙ number) rest)
    (changes p r) refl
  where
    by_change : image_from page (filter f rs) ≡ image_from page (filter g rs)
        → image_from (with_record page r) (filter f rs) ≡ image_from (with_record page r) (filter g rs)
        → (b : Bool) → changes p r ≡ b
        → image_from page (filter f (r ∷ rs)) ≡ image_from page (filter g (r ∷ rs))
    by_change left_out taken true e =
        ap (λ (b : Bool). image_from page (cond b (r ∷ filter f rs) (filter f rs)))
        (All-head (λ r. changes p r ≡ true → f r ≡ g r) r rs all e)
        ∙ redone page r (filter f rs) (filter g rs) (g r) left_out taken
    by_change left_out taken false e =
        let same = same_page page r (ap (λ (n : ℕ). changes n r) number ∙ e) in
        skipped page r (filter f rs) (f r) same ∙ left_out ∙ sym (skipped page r (filter g rs) (g r) same)

-- none are left
kept_none : (rs : List Record) → filter (λ (r : Record). false) rs ≡ []
kept_none [] = refl
kept_none (r ∷ rs) = kept_none rs

kept_all : (rs : List Record) → filter (λ (r : Record). true) rs ≡ rs
kept_all [] = refl
kept_all (r ∷ rs) = ap (λ (xs : List Record). r ∷ xs) (kept_all rs)

pub none_redone : (f : Record → Bool) (p : ℕ) (rs : List Record) (page : Page) → page.number ≡ p
    → All (λ r. changes p r ≡ true → f r ≡ false) rs → image_from page (filter f rs) ≡ page
none_redone f p rs page number all =
    same_redo f (λ r. false) p rs page number all ∙ ap (image_from page) (kept_none rs)

pub all_redone : (f : Record → Bool) (p : ℕ) (rs : List Record) (page : Page) → page.number ≡ p
    → All (λ r. changes p r ≡ true → f r ≡ true) rs → image_from page (filter f rs) ≡ image_from page rs
all_redone f p rs page number all =
    same_redo f (λ r. true) p rs page number all ∙ ap (image_from page) (kept_all rs)

-- ---- the page has each change among the records that it is made of, and none behind them

pub lsn_rises : (log : Log) → IsLog log → (p k : ℕ) → k < length log.records
    → (image (take k log.records) p).lsn ≤ (image (take (k + 1) log.records) p).lsn
lsn_rises log valid p k lt = by_change (changes p (get_or log.records k (Begin 0 0))) refl
  where
    by_change : (b : Bool) → changes p (get_or log.records k (Begin 0 0)) ≡ b
        → (image (take k log.records) p).lsn ≤ (image (take (k + 1) log.records) p).lsn
    by_change true e =
        let own = (valid.records k (Begin 0 0) lt).lsn in
        let most = lsn-image log valid p k (Begin 0 0) (omega arith) in
        let moved = image-moved log.records p k (Begin 0 0) lt e in
        omega arith
    by_change false e =
        let same = ap (λ (q : Page). q.lsn) (image-same log.records p k (Begin 0 0) lt e) in omega arith

abbrev HasEach : Log → ℕ → ℕ → Type 0
HasEach log p k =
    All (λ r. changes p r ≡ true → own_lsn r ≤ (image (take k log.records) p).lsn) (take k log.records)

pub has_each : (log : Log) → IsLog log → (p k : ℕ) → k ≤ length log.records → HasEach log p k
has_each log valid p zero le = All-nil (λ r. changes p r ≡ true → own_lsn r ≤ (image (take 0 log.records) p).lsn)
has_each log valid p (suc k) le =
    let rs = log.records in
    let lt : k < length rs = omega arith in
    let next : k + 1 ≡ suc k = omega arith in
    let rises = lsn_rises log valid p k lt in
    subst (HasEach log p) next
    (All-more (λ r. changes p r ≡ true → own_lsn r ≤ (image (take (k + 1) rs) p).lsn) rs k (Begin 0 0) lt
    (All-weaker (λ r. changes p r ≡ true → own_lsn r ≤ (image (take k rs) p).lsn)
    (λ r. changes p r ≡ true → own_lsn r ≤ (image (take (k + 1) rs) p).lsn)
    (λ r h e. let le = h e in omega arith) (take k rs) (has_each log valid p k (omega arith)))
    (λ e. let moved = image-moved rs p k (Begin 0 0) lt e in omega arith))

-- ---- which records are redone

pub passes : (from lsn own : ℕ) → from ≤ own → lsn < own → (nat_le from own && nat_lt lsn own) ≡ true
passes from lsn own high above = rw (le-leb from own high, lt-ltb lsn own above) refl

pub stays_out : (from lsn own : ℕ) → own ≤ lsn → (nat_le from own && nat_lt lsn own) ≡ false
stays_out from lsn own low = by_point (nat_le from own)
  where
    by_point : (b : Bool) → (b && nat_lt lsn own) ≡ false
    by_point true = le-ltb lsn own low
    by_point false = refl

below_point : (from lsn own : ℕ) → own < from → (nat_le from own && nat_lt lsn own) ≡ false
below_point from lsn own low = ap (λ (b : Bool). b && nat_lt lsn own) (lt-leb from own low)

-- the records behind a place are above the LSN of the page that those before it make
behind_above : (log : Log) → IsLog log → (p k from : ℕ) → k ≤ length log.records
    → All (λ lsn. lsn < from → lsn ≤ (image (take k log.records) p).lsn) (changes_on log.records p)
    → All (λ r. changes p r ≡ true → is_resumed from (image (take k log.records) p).lsn r ≡ true)
    (drop k log.records)
behind_above log valid p k from le covers = λ i d lt e.
    let rs = log.records in
    let v = (image (take k rs) p).lsn in
    let there : k + i < length rs = omega (arith, length-drop k rs) in
    let most = lsn-image log valid p k d le in
    let at : get_or (drop k rs) i d ≡ get_or rs (k + i) d = get_or-drop k rs i d in
    let own : own_lsn (get_or rs (k + i) d) ≡ lsn_of (k + i) = (valid.records (k + i) d there).lsn in
    let known = at_each (λ lsn. lsn < from → lsn ≤ v) p rs covers (k + i) d there
    (ap (changes p) (sym at) ∙ e) in
    subst (λ (r : Record). is_resumed from v r ≡ true) (sym at)
    (passes from v (own_lsn (get_or rs (k + i) d)) (redo_point_below from v _ known (omega arith)) (omega arith))
  where
    redo_point_below : (from lsn own : ℕ) → (own < from → own ≤ lsn) → lsn < own → from ≤ own
    redo_point_below from lsn own known above = grind (arith, known)

-- ---- redo of a page that lacks nothing below the redo point

pub resume_covering : (log : Log) (p : ℕ) (page : Page) (from : ℕ) → IsLog log → Covers log.records p page from
    → resume page log.records from ≡ image log.records p
resume_covering log p page from valid covers =
    let rs = log.records in
    let k = covers.past.count in
    let q = image (take k rs) p in
    let v = q.lsn in
    let f = is_resumed from v in
    let made : page ≡ q = covers.past.made in
    let reached : All (λ lsn. lsn < from → lsn ≤ v) (changes_on rs p) =
    subst (λ (x : Page). All (λ lsn. lsn < from → lsn ≤ x.lsn) (changes_on rs p)) made covers.reached in
    let had : image_from q (filter f (take k rs)) ≡ q =
    none_redone f p (take k rs) q (number-image (take k rs) p)
    (All-weaker (λ r. changes p r ≡ true → own_lsn r ≤ v) (λ r. changes p r ≡ true → f r ≡ false)
    (λ r h e. stays_out from v (own_lsn r) (h e)) (take k rs) (has_each log valid p k covers.past.within)) in
    let rest : image_from q (filter f (drop k rs)) ≡ image_from q (drop k rs) =
    all_redone f p (drop k rs) q (number-image (take k rs) p)
    (behind_above log valid p k from covers.past.within reached) in
    let split : filter f rs ≡ filter f (take k rs) ++ filter f (drop k rs) =
    ap (filter f) (sym (take-append-drop k rs)) ∙ filter-append f (take k rs) (drop k rs) in
    ap (λ (x : Page). resume x rs from) made ∙ ap (image_from q) split
    ∙ image_from-append q (filter f (take k rs)) (filter f (drop k rs))
    ∙ ap (λ (x : Page). image_from x (filter f (drop k rs))) had ∙ rest
    ∙ sym (image_from-append (formatted p) (take k rs) (drop k rs))
    ∙ ap (λ (xs : List Record). image xs p) (take-append-drop k rs)

-- a page with all of its changes is what the log makes of it
pub past_with_all : (log : Log) (p : ℕ) (page : Page) → IsLog log → IsPast log.records p page
    → All (λ lsn. lsn ≤ page.lsn) (changes_on log.records p) → page ≡ image log.records p
past_with_all log p page valid past all =
    let rs = log.records in
    let number : page.number ≡ p = ap (λ (q : Page). q.number) past.made ∙ number-image (take past.count rs) p in
    sym (none_redone (is_resumed 0 page.lsn) p rs page number
    (All-weaker (λ r. changes p r ≡ true → own_lsn r ≤ page.lsn)
    (λ r. changes p r ≡ true → is_resumed 0 page.lsn r ≡ false)
    (λ r h e. stays_out 0 page.lsn (own_lsn r) (h e)) rs (at_each (λ lsn. lsn ≤ page.lsn) p rs all)))
    ∙ resume_covering log p page 0 valid (record {
      past = past;
      reached = All-weaker (λ lsn. lsn ≤ page.lsn) (λ lsn. lsn < 0 → lsn ≤ page.lsn) (λ lsn h low. h)
          (changes_on rs p) all;
    })

-- ---- a log that grows

pub past_later : (rs next : List Record) (p : ℕ) (page : Page) → IsPast rs p page → IsPast (rs ++ next) p page
past_later rs next p page past = record {
  count = past.count;
  within = omega (arith, length-append rs next, past.within);
  made = past.made ∙ ap (λ (xs : List Record). image xs p) (sym (take-append-le past.count rs next past.within));
}

changes-append : (rs : List Record) (next : Record) (p : ℕ)
    → changes_on (rs ++ next ∷ []) p ≡ changes_on rs p ++ changes_on (next ∷ []) p
changes-append rs next p = ap (map own_lsn) (filter-append (changes p) rs (next ∷ []))
    ∙ map-append own_lsn (filter (changes p) rs) (filter (changes p) (next ∷ []))

pub covers_later : (rs : List Record) (next : Record) (p : ℕ) (page : Page) (bound : ℕ) → bound ≤ own_lsn next
    → Covers rs p page bound → Covers (rs ++ next ∷ []) p page bound
covers_later rs next p page bound high covers =
    let P = λ (lsn : ℕ). lsn < bound → lsn ≤ page.lsn in
    record {
      past = past_later rs (next ∷ []) p page covers.past;
      reached = subst (All P) (sym (changes-append rs next p))
          (All-append P (changes_on rs p) (changes_on (next ∷ []) p) covers.reached
          (of_each P p (next ∷ []) (All-cons (λ r. changes p r ≡ true → P (own_lsn r)) next []
          (λ e low. absurd (omega arith)) (All-nil (λ r. changes p r ≡ true → P (own_lsn r))))));
    }

-- ---- the first change that a stored page may lack

none_is_least : (ns : List ℕ) → least ns ≡ None → ns ≡ []
none_is_least [] none = refl
none_is_least (n ∷ ns) none = cc

lowest : (ns : List ℕ) (m : ℕ) → least ns ≡ Some m → All (λ n. m ≤ n) ns
lowest [] m e = All-nil (λ n. m ≤ n)
lowest (n ∷ ns) m e = by_rest (lowest ns) (least ns) refl
  where
    by_rest : ((k : ℕ) → least ns ≡ Some k → All (λ n. k ≤ n) ns) → (o : Option ℕ) → least ns ≡ o
        → All (λ n. m ≤ n) (n ∷ ns)
    by_rest rest None none =
        let alone : Some n ≡ Some m = ap (λ (o : Option ℕ). Some (option_map_or (min n) o n)) (sym none) ∙ e in
        let here : n ≡ m = cc in
        All-cons (λ n. m ≤ n) n ns (omega arith)
        (subst (All (λ n. m ≤ n)) (sym (none_is_least ns none)) (All-nil (λ n. m ≤ n)))
    by_rest rest (Some k) some =
        let both : Some (min n k) ≡ Some m = ap (λ (o : Option ℕ). Some (option_map_or (min n) o n)) (sym some) ∙ e in
        let here : min n k ≡ m = cc in
        All-cons (λ n. m ≤ n) n ns (omega arith)
        (All-weaker (λ x. k ≤ x) (λ x. m ≤ x) (λ x le. omega arith) ns (rest k some))

-- what a filter keeps says what holds of all that pass
of_those : (f : ℕ → Bool) (P : ℕ → Type 0) (ns : List ℕ) → All P (filter f ns) → All (λ n. f n ≡ true → P n) ns
of_those f P [] all = All-nil (λ n. f n ≡ true → P n)
of_those f P (n ∷ ns) all = by_test (of_those f P ns) (f n) refl
  where
    by_test : (All P (filter f ns) → All (λ n. f n ≡ true → P n) ns) → (b : Bool) → f n ≡ b
        → All (λ n. f n ≡ true → P n) (n ∷ ns)
    by_test rest true e =
        let here : All P (n ∷ filter f ns) = subst
        (λ (b : Bool). All P (cond b (n ∷ filter f ns) (filter f ns))) e all in
        All-cons (λ n. f n ≡ true → P n) n ns (λ same. All-head P n (filter f ns) here)
        (rest (All-tail P n (filter f ns) here))
    by_test rest false e =
        let here : All P (filter f ns) = subst (λ (b : Bool). All P (cond b (n ∷ filter f ns) (filter f ns))) e all in
        All-cons (λ n. f n ≡ true → P n) n ns (λ same. cc) (rest here)

pub dirty_covers : (rs : List Record) (p : ℕ) (page : Page) (written rec : ℕ) → IsPast rs p page → written ≤ page.lsn
    → rec_lsn rs p written ≡ Some rec → Covers rs p page rec
dirty_covers rs p page written rec past reached e = record {
  past = past;
  reached = All-weaker (λ n. nat_lt written n ≡ true → rec ≤ n) (λ n. n < rec → n ≤ page.lsn)
      (λ n h low. below written n rec page.lsn h low reached) (changes_on rs p)
      (of_those (nat_lt written) (λ n. rec ≤ n) (changes_on rs p)
      (lowest (filter (nat_lt written) (changes_on rs p)) rec e));
}
  where
    below : (written n rec lsn : ℕ) → (nat_lt written n ≡ true → rec ≤ n) → n < rec → written ≤ lsn → n ≤ lsn
    below written n rec lsn h low reached = by_test (nat_lt written n) refl
      where
        by_test : (b : Bool) → nat_lt written n ≡ b → n ≤ lsn
        by_test true test = let le : rec ≤ n = h test in absurd (omega arith)
        by_test false test = let le : n ≤ written = ltb-false written n test in omega arith

pub clean_is_image : (log : Log) (p : ℕ) (page : Page) (written : ℕ) → IsLog log → IsPast log.records p page
    → written ≤ page.lsn → rec_lsn log.records p written ≡ None → page ≡ image log.records p
clean_is_image log p page written valid past reached e =
    let rs = log.records in
    let none = none_is_least (filter (nat_lt written) (changes_on rs p)) e in
    past_with_all log p page valid past
    (All-weaker (λ n. nat_lt written n ≡ true → ⊥) (λ n. n ≤ page.lsn)
    (λ n h. below written n page.lsn h reached) (changes_on rs p)
    (of_those (nat_lt written) (λ n. ⊥) (changes_on rs p)
    (subst (All (λ n. ⊥)) (sym none) (All-nil (λ (n : ℕ). ⊥)))))
  where
    below : (written n lsn : ℕ) → (nat_lt written n ≡ true → ⊥) → written ≤ lsn → n ≤ lsn
    below written n lsn h reached = by_test (nat_lt written n) refl
      where
        by_test : (b : Bool) → nat_lt written n ≡ b → n ≤ lsn
        by_test true test = absurd (h test)
        by_test false test = let le : n ≤ written = ltb-false written n test in omega arith

-- one change more, behind all others
least-more : (ns : List ℕ) (last : ℕ) → All (λ n. n < last) ns
    → least (ns ++ last ∷ []) ≡ Some (unwrap_or (least ns) last)
least-more [] last all = refl
least-more (n ∷ ns) last all =
    ap (λ (o : Option ℕ). Some (option_map_or (min n) o n)) (least-more ns last (All-tail (λ n. n < last) n ns all))
    ∙ ap Some (by_rest (least ns) (All-head (λ n. n < last) n ns all))
  where
    by_rest : (o : Option ℕ) → n < last → min n (unwrap_or o last) ≡ unwrap_or (Some (option_map_or (min n) o n)) last
    by_rest None low = omega arith
    by_rest (Some k) low = refl

changes_below : (log : Log) → IsLog log → (p : ℕ)
    → All (λ lsn. lsn < lsn_of (length log.records)) (changes_on log.records p)
changes_below log valid p =
    of_each (λ lsn. lsn < lsn_of (length log.records)) p log.records
    (λ i d lt e. let own = (valid.records i d lt).lsn in omega arith)

pub rec_later : (log : Log) (next : Record) (p written : ℕ) → IsLog log → own_lsn next ≡ lsn_of (length log.records)
    → written < own_lsn next
    → rec_lsn (log.records ++ next ∷ []) p written
    ≡ (if changes p next then Some (unwrap_or (rec_lsn log.records p written) (own_lsn next))
    else rec_lsn log.records p written)
rec_later log next p written valid own high =
    ap (λ (ns : List ℕ). least (filter (nat_lt written) ns)) (changes-append rs next p)
    ∙ ap least (filter-append (nat_lt written) (changes_on rs p) (changes_on (next ∷ []) p))
    ∙ by_change (changes p next)
  where
    rs : List Record
    rs = log.records

    old : List ℕ
    old = filter (nat_lt written) (changes_on rs p)

    by_change : (b : Bool) → least (old ++ filter (nat_lt written) (map own_lsn (cond b (next ∷ []) [])))
        ≡ (if b then Some (unwrap_or (least old) (own_lsn next)) else least old)
    by_change true =
        rw (lt-ltb written (own_lsn next) high)
        (least-more old (own_lsn next)
        (All-weaker (λ n. n < lsn_of (length rs)) (λ n. n < own_lsn next) (λ n low. omega arith) old
        (All-filter (nat_lt written) (λ n. n < lsn_of (length rs)) (changes_on rs p) (changes_below log valid p))))
    by_change false = ap least (append-nil old)

kept_if_passed : (f : ℕ → Bool) (ns : List ℕ) → All (λ n. f n ≡ false) ns → filter f ns ≡ []
kept_if_passed f [] all = refl
kept_if_passed f (n ∷ ns) all =
    ap (λ (b : Bool). cond b (n ∷ filter f ns) (filter f ns)) (All-head (λ n. f n ≡ false) n ns all)
    ∙ kept_if_passed f ns (All-tail (λ n. f n ≡ false) n ns all)

-- the page as it is now lacks nothing
pub image_is_clean : (log : Log) (p : ℕ) → IsLog log → rec_lsn log.records p (image log.records p).lsn ≡ None
image_is_clean log p valid =
    let rs = log.records in
    let v = (image rs p).lsn in
    let whole : take (length rs) rs ≡ rs = take_all (length rs) rs (omega arith) in
    let each = has_each log valid p (length rs) (omega arith) in
    let here : All (λ r. changes p r ≡ true → own_lsn r ≤ v) rs =
    subst (λ (xs : List Record). All (λ r. changes p r ≡ true → own_lsn r ≤ (image xs p).lsn) xs) whole each in
    ap least (kept_if_passed (nat_lt v) (changes_on rs p)
    (All-weaker (λ n. n ≤ v) (λ n. nat_lt v n ≡ false) (λ n low. le-ltb v n low) (changes_on rs p)
    (of_each (λ n. n ≤ v) p rs here)))

least-has : (P : ℕ → Type 0) (ns : List ℕ) (m : ℕ) → least ns ≡ Some m → All P ns → P m
least-has P [] m e all = cc
least-has P (n ∷ ns) m e all =
    by_rest (λ k some. least-has P ns k some (All-tail P n ns all)) (least ns) refl
  where
    by_rest : ((k : ℕ) → least ns ≡ Some k → P k) → (o : Option ℕ) → least ns ≡ o → P m
    by_rest rest None none =
        let alone : Some n ≡ Some m = ap (λ (o : Option ℕ). Some (option_map_or (min n) o n)) (sym none) ∙ e in
        let here : n ≡ m = cc in
        subst P here (All-head P n ns all)
    by_rest rest (Some k) some =
        let both : Some (min n k) ≡ Some m = ap (λ (o : Option ℕ). Some (option_map_or (min n) o n)) (sym some) ∙ e in
        let here : min n k ≡ m = cc in
        elim (cases_lt n k) [
          | inl low ↦ let same : n ≡ m = omega arith in subst P same (All-head P n ns all)
          | inr high ↦ let same : k ≡ m = omega arith in subst P same (rest k some)
        ]

-- a RecLSN is the LSN of a change of the page, above the LSN of its last write
pub rec_is_change : (rs : List Record) (p written rec : ℕ) → rec_lsn rs p written ≡ Some rec
    → Contains (changes_on rs p) rec × (written < rec)
rec_is_change rs p written rec e =
    let all = changes_on rs p in
    let above = nat_lt written in (
      least-has (Contains all) (filter above all) rec e (All-filter above (Contains all) all (All-contains_itself all)),
      ltb-true written rec (least-has (λ n. above n ≡ true) (filter above all) rec e (filter_passes above all)),
    )

pub covers_lower : (rs : List Record) (p : ℕ) (page : Page) (high low : ℕ) → low ≤ high → Covers rs p page high
    → Covers rs p page low
covers_lower rs p page high low le covers = record {
  past = covers.past;
  reached = All-weaker (λ lsn. lsn < high → lsn ≤ page.lsn) (λ lsn. lsn < low → lsn ≤ page.lsn)
      (λ lsn h below. h (omega arith)) (changes_on rs p) covers.reached;
}
