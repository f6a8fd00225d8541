-- The changes of a page among a log's first records, and what the page shows that has them.
use Rattle.std.proofs.Common.{◌≡◌, ◌≢◌, ℕ, zero, suc, ◌+◌, ◌-◌, ◌*◌, ◌/◌, ◌^◌, ◌<◌, ◌≤◌, ◌&&◌, Bool, true, false, cond, eqb}
use Rattle.std.proofs.Common.{List, [], ◌∷◌, ◌++◌, length, get_or, take, min, refl, sym, ap, subst, ◌∙◌, arith, inl, inr}
use Rattle.std.specs.Prelude.{Option, Some, None, nat_le, slice_get}
use Rattle.std.specs.List.{filter, range_with_len}
use Rattle.std.specs.Option.{option_map_or}
use Rattle.std.proofs.lemmas.Bool.{cases_lt, eq-eqb, eqb-true, le-leb}
use Rattle.std.proofs.lemmas.List.{append-nil, append_assoc, get_or_append_left, length-append, take_all}
use Rattle.std.proofs.lemmas.List.Elements.{filter_passes}
use Rattle.std.proofs.lemmas.Option.{slice_get-get_or}
use Rattle.std.proofs.lemmas.Slice.Eq.{bytes_eq-Decides}
use Rattle.std.specs.Bool.{Decides}
use Rattle.std.specs.Cmp.Lexicographic.{pointwise}
use Rattle.std.proofs.Math.Seq.{get_or-append_seam, take-append_seam}
use Rattle.page_core.specs.declared.page.Page.{Page}
use Rattle.page_core.specs.Page.{formatted}
use Rattle.log_records.specs.declared.record.Record.{Record}
use Rattle.log_records.specs.declared.record.Record.TheVariants.{Begin}
use Rattle.log_records.specs.Coverage.{Covers, IsPast, changes}
use Rattle.log_records.specs.Image.{image, image_from, with_record}
use Rattle.log_records.specs.Log.{IsLog, Log}
use Rattle.log_records.specs.Record.{own_lsn}
use Rattle.log_records.proofs.Public.{all_redone, at_each, of_each, past_is_named}
use Rattle.page_redo.specs.PageRecords.{first_numbers_on, is_on, number_is_on, numbers_on}
use Rattle.log_store.specs.PageHistory.{records_at}
use Rattle.log_store.proofs.Public.{all_more, none_more, some_more}
use Rattle.page_redo.proofs.Public.{numbers_more, numbers_with, records_of_first}
use Rattle.copy_audit.specs.declared.trace.Trace.{Trace}
use Rattle.copy_audit.specs.Trace.{IsReach, IsSeen, IsTraced}

-- the numbers of the changes of a page among the log's first records
abbrev first : List Record → ℕ → ℕ → List ℕ
first rs p n = first_numbers_on rs 0 n p

-- ---- numbers of records, one after another

last_below : (xs : List ℕ) (b : Bool) (n i : ℕ) → ((j : ℕ) → j < length xs → get_or xs j 0 < n)
    → i < length (xs ++ cond b (n ∷ []) []) → get_or (xs ++ cond b (n ∷ []) []) i 0 < n + 1
last_below xs true n i each lt = elim (cases_lt i (length xs)) [
  | inl less ↦
      let at = get_or_append_left xs (n ∷ []) 0 i less in
      let here = each i less in
      omega arith
  | inr past ↦
      let same : length xs ≡ i = omega (arith, length-append xs (n ∷ []), lt) in
      let at : get_or (xs ++ n ∷ []) i 0 ≡ n =
      subst (λ (k : ℕ). get_or (xs ++ n ∷ []) k 0 ≡ n) same (get_or-append_seam xs n [] 0) in
      omega arith
]
last_below xs false n i each lt =
    let none : xs ++ [] ≡ xs = append-nil xs in
    let there : i < length xs = subst (λ (ys : List ℕ). i < length ys) none lt in
    let at : get_or (xs ++ []) i 0 ≡ get_or xs i 0 = ap (λ (ys : List ℕ). get_or ys i 0) none in
    let here = each i there in
    omega arith

-- each is below their count
pub all_below : (rs : List Record) (p n i : ℕ) → i < length (first rs p n) → get_or (first rs p n) i 0 < n
all_below rs p zero i lt = absurd (omega arith)
all_below rs p (suc n) i lt =
    let next : n + 1 ≡ suc n = omega arith in
    let more = numbers_more rs 0 n p in
    let there : i < length (first rs p n ++ cond (number_is_on rs 0 p n) (n ∷ []) []) =
    subst (λ (ys : List ℕ). i < length ys) more (subst (λ (m : ℕ). i < length (first rs p m)) (sym next) lt) in
    subst (λ (m : ℕ). get_or (first rs p m) i 0 < m) next
    (subst (λ (ys : List ℕ). get_or ys i 0 < n + 1) (sym more)
    (last_below (first rs p n) (number_is_on rs 0 p n) n i (λ j below. all_below rs p n j below) there))

-- those of more records begin with them
abbrev IsFrontOf : List Record → ℕ → ℕ → ℕ → Type 0
IsFrontOf rs p n k = (rest : List ℕ) × (first rs p k ≡ first rs p n ++ rest)

front : (rs : List Record) (p n m : ℕ) → IsFrontOf rs p n (n + m)
front rs p n zero =
    let none : n ≡ n + 0 = omega arith in
    subst (IsFrontOf rs p n) none ([], sym (append-nil (first rs p n)))
front rs p n (suc m) =
    let next : n + m + 1 ≡ n + suc m = omega arith in
    let before = front rs p n m in
    let one = cond (number_is_on rs 0 p (n + m)) ((n + m) ∷ []) [] in
    subst (IsFrontOf rs p n) next (
      before.0 ++ one,
      numbers_more rs 0 (n + m) p ∙ ap (λ (ys : List ℕ). ys ++ one) before.1
          ∙ simp append_assoc,
    )

front_to : (rs : List Record) (p n k : ℕ) → n ≤ k → IsFrontOf rs p n k
front_to rs p n k le =
    let all : n + (k - n) ≡ k = omega arith in
    subst (IsFrontOf rs p n) all (front rs p n (k - n))

same_front : (rs : List Record) (p n k i : ℕ) → n ≤ k → i < length (first rs p n)
    → get_or (first rs p k) i 0 ≡ get_or (first rs p n) i 0
same_front rs p n k i le lt =
    let parts = front_to rs p n k le in
    ap (λ (ys : List ℕ). get_or ys i 0) parts.1 ∙ get_or_append_left (first rs p n) parts.0 0 i lt

longer : (rs : List Record) (p n k : ℕ) → n ≤ k → length (first rs p n) ≤ length (first rs p k)
longer rs p n k le =
    let parts = front_to rs p n k le in
    omega (arith, ap length parts.1, length-append (first rs p n) parts.0)

-- those behind them are no smaller
behind : (rs : List Record) (p n m i : ℕ) → length (first rs p n) ≤ i → i < length (first rs p (n + m))
    → n ≤ get_or (first rs p (n + m)) i 0
behind rs p n zero i past lt =
    let none : length (first rs p (n + 0)) ≡ length (first rs p n) =
    ap (λ (k : ℕ). length (first rs p k)) (let same : n + 0 ≡ n = omega arith in same) in
    absurd (omega arith)
behind rs p n (suc m) i past lt =
    let next : n + m + 1 ≡ n + suc m = omega arith in
    let more = numbers_more rs 0 (n + m) p in
    let there : i < length (first rs p (n + m) ++ cond (number_is_on rs 0 p (n + m)) ((n + m) ∷ []) []) =
    subst (λ (ys : List ℕ). i < length ys) more (subst (λ (k : ℕ). i < length (first rs p k)) (sym next) lt) in
    subst (λ (k : ℕ). n ≤ get_or (first rs p k) i 0) next
    (subst (λ (ys : List ℕ). n ≤ get_or ys i 0) (sym more)
    (one (behind rs p n m i past) (number_is_on rs 0 p (n + m)) there))
  where
    one : (i < length (first rs p (n + m)) → n ≤ get_or (first rs p (n + m)) i 0) → (b : Bool) → i < length (first rs p (n + m) ++ cond b ((n + m) ∷ []) [])
        → n ≤ get_or (first rs p (n + m) ++ cond b ((n + m) ∷ []) []) i 0
    one before true there = elim (cases_lt i (length (first rs p (n + m)))) [
      | inl less ↦
          let at = get_or_append_left (first rs p (n + m)) ((n + m) ∷ []) 0 i less in
          let here = before less in
          omega arith
      | inr over ↦
          let same : length (first rs p (n + m)) ≡ i =
          omega (arith, length-append (first rs p (n + m)) ((n + m) ∷ []), there) in
          let at : get_or (first rs p (n + m) ++ (n + m) ∷ []) i 0 ≡ n + m =
          subst (λ (k : ℕ). get_or (first rs p (n + m) ++ (n + m) ∷ []) k 0 ≡ n + m) same
          (get_or-append_seam (first rs p (n + m)) (n + m) [] 0) in
          omega arith
    ]
    one before false there =
        let none : first rs p (n + m) ++ [] ≡ first rs p (n + m) = append-nil (first rs p (n + m)) in
        let less : i < length (first rs p (n + m)) = subst (λ (ys : List ℕ). i < length ys) none there in
        let at = ap (λ (ys : List ℕ). get_or ys i 0) none in
        let here = before less in
        omega arith

no_smaller : (rs : List Record) (p n k i : ℕ) → n ≤ k → length (first rs p n) ≤ i → i < length (first rs p k)
    → n ≤ get_or (first rs p k) i 0
no_smaller rs p n k i le past lt =
    let all : n + (k - n) ≡ k = omega arith in
    subst (λ (x : ℕ). n ≤ get_or (first rs p x) i 0) all
    (behind rs p n (k - n) i past (subst (λ (x : ℕ). i < length (first rs p x)) (sym all) lt))

-- ---- a page whose first changes were redone

-- the page is what so many records make, and its changes are those among them
traced_count : (rs : List Record) (p k : ℕ) (it : Trace) → IsTraced rs p it → it.reached ≡ k → k ≤ length rs
    → it.done ≡ length (first rs p k)
traced_count rs p k it traced is le = elim (cases_lt it.done (length (first rs p k))) [
  | inl less ↦
      let long = longer rs p k (length rs) le in
      let at = same_front rs p k (length rs) it.done le less in
      let low = all_below rs p k it.done less in
      let high = traced.above (omega arith) in
      absurd (omega arith)
  | inr past ↦ elim (cases_lt (length (first rs p k)) it.done) [
    | inl more ↦
        let within = traced.within in
        let low = traced.below (length (first rs p k)) more in
        let high = no_smaller rs p k (length rs) (length (first rs p k)) le (omega arith) (omega arith) in
        absurd (omega arith)
    | inr same ↦ omega arith
  ]
]

on_page : (rs : List Record) (p : ℕ) → image_from (formatted p) (filter (is_on 0 p) rs) ≡ image rs p
unfolding formatted
on_page rs p = all_redone (is_on 0 p) p rs (formatted p) refl (λ i d lt e. rw (le-leb 0 (own_lsn (get_or rs i d)) (omega arith), e) refl)

pub traced_page : (rs : List Record) (p k : ℕ) (it : Trace) → IsTraced rs p it → it.reached ≡ k → k ≤ length rs
    → it.page ≡ image (take k rs) p
traced_page rs p k it traced is le =
    let parts = front_to rs p k (length rs) le in
    let count = traced_count rs p k it traced is le in
    let taken : take it.done (numbers_on rs 0 p) ≡ first rs p k =
    ap (λ (n : ℕ). take n (numbers_on rs 0 p)) count ∙ ap (take (length (first rs p k))) parts.1
    ∙ take-append_seam (first rs p k) parts.0 in
    traced.made ∙ ap (λ (ns : List ℕ). image_from (formatted p) (records_at rs ns)) taken
    ∙ ap (image_from (formatted p)) (records_of_first rs 0 k p (Begin 0 0) le) ∙ on_page (take k rs) p

pub traced_none : (rs : List Record) (p : ℕ) (it : Trace) → it.page ≡ formatted p → it.done ≡ 0 → it.reached ≡ 0
    → IsTraced rs p it
traced_none rs p it page none start = record {
  made = page ∙ ap (λ (n : ℕ). image_from (formatted p) (records_at rs (take n (numbers_on rs 0 p)))) (sym none);
  within = omega arith;
  below = λ i lt. absurd (omega arith);
  above = λ some. omega arith;
}

-- ---- whether a page is of the log's past

min_is : (a b : ℕ) → min a b ≤ b
min_is a b = omega arith

pub seen_past : (log : Log) (p : ℕ) (page : Page) (it : Trace) → IsTraced log.records p it
    → it.reached ≡ min (page.lsn / 64) (length log.records) → it.page ≡ page → IsPast log.records p page
seen_past log p page it traced there same = record {
  count = it.reached;
  within = omega (arith, min_is (page.lsn / 64) (length log.records));
  made = sym same ∙ traced_page log.records p it.reached it traced refl (omega (arith, min_is (page.lsn / 64) (length log.records)));
}

take_least : {X : Type 0} (xs : List X) (n : ℕ) → take (min n (length xs)) xs ≡ take n xs
take_least xs n = elim (cases_lt n (length xs)) [
  | inl less ↦ ap (λ (k : ℕ). take k xs) (let e : min n (length xs) ≡ n = omega arith in e)
  | inr past ↦ take_all (min n (length xs)) xs (omega arith) ∙ sym (take_all n xs past)
]

pub seen_not : (log : Log) (p : ℕ) (page : Page) (it : Trace) → IsLog log → IsTraced log.records p it
    → it.reached ≡ min (page.lsn / 64) (length log.records) → it.page ≢ page → ¬ IsPast log.records p page
seen_not log p page it valid traced there differ past =
    let rs = log.records in
    let here = traced_page rs p it.reached it traced refl (omega (arith, min_is (page.lsn / 64) (length rs))) in
    differ (here ∙ ap (λ (k : ℕ). image (take k rs) p) there
    ∙ ap (λ (xs : List Record). image xs p) (take_least rs (page.lsn / 64))
    ∙ sym (past_is_named log p page valid past))

-- ---- which changes a page lacks

-- a change behind those that were redone: it is the next one, or one behind that
record IsBehind (ns : List ℕ) (done i : ℕ) : Type 0 where
  there : done < length ns
  first : get_or ns done 0 ≤ i

change_behind : (rs : List Record) (p k i : ℕ) (d : Record) → k ≤ i → i < length rs
    → changes p (get_or rs i d) ≡ true → IsBehind (numbers_on rs 0 p) (length (first rs p k)) i
change_behind rs p k i d le lt e =
    let done = length (first rs p k) in
    let on : number_is_on rs 0 p i ≡ true =
    ap (λ (o : Option Record). option_map_or (is_on 0 p) o false) (slice_get-get_or rs i d lt)
    ∙ rw (le-leb 0 (own_lsn (get_or rs i d)) (omega arith), e) refl in
    let more = numbers_with rs 0 i p on in
    let one : length (first rs p (i + 1)) ≡ length (first rs p i) + 1 =
    ap length more ∙ length-append (first rs p i) (i ∷ []) in
    let all = longer rs p (i + 1) (length rs) (omega arith) in
    let before = longer rs p k i le in
    record {
      there = omega arith;
      first = elim (cases_lt done (length (first rs p i))) [
        | inl less ↦
            let at = same_front rs p i (length rs) done (omega arith) less in
            let low = all_below rs p i done less in
            omega arith
        | inr past ↦
            let same : length (first rs p i) ≡ done = omega arith in
            let at = same_front rs p (i + 1) (length rs) done (omega arith) (omega arith) in
            let last : get_or (first rs p i ++ i ∷ []) done 0 ≡ i =
            subst (λ (n : ℕ). get_or (first rs p i ++ i ∷ []) n 0 ≡ i) same (get_or-append_seam (first rs p i) i [] 0) in
            let here = ap (λ (ys : List ℕ). get_or ys done 0) more in
            omega arith
      ];
    }

pub covers_when : (log : Log) (p : ℕ) (page : Page) (it : Trace) (past : Bool) (bound : ℕ) → IsLog log
    → IsSeen log.records p page it past → past ≡ true
    → (it.done < length (numbers_on log.records 0 p) → bound ≤ 64 * (get_or (numbers_on log.records 0 p) it.done 0 + 1))
    → Covers log.records p page bound
covers_when log p page it past bound valid seen of_past next =
    let rs = log.records in
    let ns = numbers_on rs 0 p in
    let within : it.reached ≤ length rs = omega (arith, seen.there, min_is (page.lsn / 64) (length rs)) in
    let low : it.reached ≤ page.lsn / 64 = omega (arith, seen.there) in
    let count = traced_count rs p it.reached it seen.traced refl within in
    record {
      past = seen.is_past of_past;
      reached = of_each (λ lsn. lsn < bound → lsn ≤ page.lsn) p rs (λ i d lt e below.
          let own : own_lsn (get_or rs i d) ≡ 64 * (i + 1) = (valid.records i d lt).lsn in
          elim (cases_lt i it.reached) [
            | inl less ↦ omega arith
            | inr over ↦
                let back = change_behind rs p it.reached i d over lt e in
                let there : it.done < length ns = let t = back.there in omega arith in
                let at : get_or ns it.done 0 ≡ get_or ns (length (first rs p it.reached)) 0 =
                ap (λ (n : ℕ). get_or ns n 0) count in
                let far = next there in
                let least = back.first in
                absurd (omega arith)
          ]);
    }

-- the record that a number names changes the page
pub changes_there : (rs : List Record) (p i : ℕ) (d : Record) → i < length rs → number_is_on rs 0 p i ≡ true
    → changes p (get_or rs i d) ≡ true
changes_there rs p i d lt on =
    of_both (nat_le 0 (own_lsn (get_or rs i d))) (changes p (get_or rs i d))
    (sym (ap (λ (o : Option Record). option_map_or (is_on 0 p) o false) (slice_get-get_or rs i d lt)) ∙ on)
  where
    of_both : (a b : Bool) → (a && b) ≡ true → b ≡ true
    of_both true b e = e
    of_both false b e = cc

pub lacks_when : (log : Log) (p : ℕ) (page : Page) (it : Trace) (past : Bool) (bound : ℕ) → IsLog log
    → IsSeen log.records p page it past → it.done < length (numbers_on log.records 0 p)
    → 64 * (get_or (numbers_on log.records 0 p) it.done 0 + 1) < bound → ¬ Covers log.records p page bound
lacks_when log p page it past bound valid seen some early covers =
    let rs = log.records in
    let ns = numbers_on rs 0 p in
    let n = get_or ns it.done 0 in
    let below : n < length rs = all_below rs p (length rs) it.done some in
    let on : number_is_on rs 0 p n ≡ true =
    filter_passes (number_is_on rs 0 p) (range_with_len 0 (length rs)) it.done 0 some in
    let change = changes_there rs p n (Begin 0 0) below on in
    let own : own_lsn (get_or rs n (Begin 0 0)) ≡ 64 * (n + 1) = (valid.records n (Begin 0 0) below).lsn in
    let each = at_each (λ lsn. lsn < bound → lsn ≤ page.lsn) p rs covers.reached n (Begin 0 0) below change in
    let had : own_lsn (get_or rs n (Begin 0 0)) ≤ page.lsn = each (omega arith) in
    let over : it.reached ≤ n = seen.traced.above some in
    let there = seen.there in
    absurd (omega arith)

-- how far the page reaches, whose next change has this LSN
pub reach_of : (log : Log) (p : ℕ) (page : Page) (it : Trace) (past : Bool) (last : ℕ) → IsLog log
    → IsSeen log.records p page it past
    → (it.done < length (numbers_on log.records 0 p) → last ≡ 64 * (get_or (numbers_on log.records 0 p) it.done 0 + 1))
    → (length (numbers_on log.records 0 p) ≤ it.done → last + 1 ≡ 2 ^ 64)
    → IsReach log.records p page (record { is_past = past; last = last })
reach_of log p page it past last valid seen next none bound fits =
    let ns = numbers_on log.records 0 p in (
      λ covers. (
        was past (seen.is_not) covers.past,
        elim (cases_lt it.done (length ns)) [
          | inl some ↦ elim (cases_lt last bound) [
            | inl early ↦
                absurd (lacks_when log p page it past bound valid seen some (omega (arith, next some, early)) covers)
            | inr late ↦ late
          ]
          | inr over ↦ omega (arith, none over, fits)
        ],
      ),
      λ both. covers_when log p page it past bound valid seen both.0 (λ some. omega (arith, next some, both.1)),
    )
  where
    was : (b : Bool) → (b ≡ false → ¬ IsPast log.records p page) → IsPast log.records p page → b ≡ true
    was true never is = refl
    was false never is = absurd (never refl is)

-- ---- one change more

pub made_step : (rs : List Record) (ns : List ℕ) (page now next : Page) (i n : ℕ) (r : Record) → i < length ns
    → n ≡ get_or ns i 0 → slice_get rs n ≡ Some r → now ≡ image_from page (records_at rs (take i ns))
    → next ≡ with_record now r → next ≡ image_from page (records_at rs (take (i + 1) ns))
made_step rs ns page now next i n r lt is at before step =
    all_more page now next (records_at rs (take i ns)) (records_at rs (take (i + 1) ns)) r
    (some_more rs ns i n r lt is at) before step

pub made_skip : (rs : List Record) (ns : List ℕ) (page now : Page) (i n : ℕ) → i < length ns → n ≡ get_or ns i 0
    → slice_get rs n ≡ None → now ≡ image_from page (records_at rs (take i ns))
    → now ≡ image_from page (records_at rs (take (i + 1) ns))
made_skip rs ns page now i n lt is at before =
    before ∙ sym (ap (image_from page) (none_more rs ns i n lt is at))

-- ---- whether two pages are the same

same_page : (a b : Page) → a.number ≡ b.number → a.lsn ≡ b.lsn → a.slots ≡ b.slots → a ≡ b
same_page a b number lsn slots =
    let to_number : a ≡ record { number = b.number; lsn = a.lsn; slots = a.slots } =
    ap (λ (n : ℕ). record { number = n; lsn = a.lsn; slots = a.slots }) number in
    let to_lsn : record { number = b.number; lsn = a.lsn; slots = a.slots } ≡ record { number = b.number; lsn = b.lsn; slots = a.slots } =
    ap (λ (l : ℕ). record { number = b.number; lsn = l; slots = a.slots }) lsn in
    to_number ∙ to_lsn ∙ ap (λ (xs : List ℕ). record { number = b.number; lsn = b.lsn; slots = xs }) slots

pub page_eq : (a b : Page) (r : Bool)
    → r ≡ (eqb a.number b.number && (eqb a.lsn b.lsn && pointwise eqb a.slots b.slots)) → Decides r (a ≡ b)
page_eq a b r is = (
  λ test. by_tests (eqb a.number b.number) (eqb a.lsn b.lsn) (pointwise eqb a.slots b.slots) refl refl refl (sym is ∙ test),
  λ same. is ∙ rw (
    eq-eqb a.number b.number (ap (λ (p : Page). p.number) same),
    eq-eqb a.lsn b.lsn (ap (λ (p : Page). p.lsn) same),
    (bytes_eq-Decides a.slots b.slots).1 (ap (λ (p : Page). p.slots) same),
  ) refl,
)
  where
    by_tests : (x y z : Bool) → eqb a.number b.number ≡ x → eqb a.lsn b.lsn ≡ y → pointwise eqb a.slots b.slots ≡ z
        → (x && (y && z)) ≡ true → a ≡ b
    by_tests true true true number lsn slots all =
        same_page a b (eqb-true a.number b.number number) (eqb-true a.lsn b.lsn lsn)
        ((bytes_eq-Decides a.slots b.slots).0 slots)
    by_tests true true false number lsn slots all = cc
    by_tests true false z number lsn slots all = cc
    by_tests false y z number lsn slots all = cc

-- ---- the formatted page

pub formatted_seen : (rs : List Record) (p : ℕ) (it : Trace) → IsTraced rs p it → it.reached ≡ 0
    → IsSeen rs p (formatted p) it true
unfolding formatted
formatted_seen rs p it traced start = record {
  traced = traced;
  there = omega arith;
  is_past = λ so_it_is. record { count = 0; within = omega arith; made = refl };
  is_not = λ differs. cc;
}
