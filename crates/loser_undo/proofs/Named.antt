-- Each open transaction of a log is named from the BeginChkpt of a complete checkpoint on.
use Rattle.std.proofs.Common.{◌≡◌, ◌≢◌, ℕ, ◌+◌, ◌-◌, ◌<◌, true, false, ◌||◌, eqb, List, [], ◌∷◌, ◌++◌}
use Rattle.std.proofs.Common.{length, get_or, slice_get, map, take, drop, sym, refl, ap, subst, subst₂, ◌∙◌, inl, inr, arith, ne_eqb, eq-eqb, suc, ◌&&◌}
use Rattle.std.proofs.Common.{append_assoc}
use Rattle.std.specs.Prelude.{Option, Some, None, IfSome, IsSomeAnd}
use Rattle.std.specs.List.{All, Contains, fold, list_any}
use Rattle.std.specs.Option.{option_map_or}
use Rattle.std.proofs.Math.Seq.{take-append-add}
use Rattle.std.proofs.lemmas.Bool.{cases_Bool, cases_eq, cases_lt, eqb-false, or_parts, or_right}
use Rattle.std.proofs.lemmas.List.{append-nil, get_or_append_left, get_or_at, length-append, take-append-drop, take-append-le, take_at}
use Rattle.std.proofs.lemmas.List.Elements.{All-cons, All-contains, All-filter, All-head, All-nil, All-push, All-tail, All-take, All-weaker}
use Rattle.std.proofs.lemmas.List.Folds.{list_any-append}
use Rattle.std.proofs.lemmas.List.Sums.{fold-append}
use Rattle.log_records.specs.declared.record.Record.{Record}
use Rattle.log_records.specs.declared.record.Record.TheVariants.{Begin, Update, Comp, Commit, Abort, End, BeginChkpt}
use Rattle.log_records.specs.declared.record.Record.TheVariants.{ChkptPages, ChkptTxns, EndChkpt, Extend}
use Rattle.log_records.specs.Log.{Log, lsn_of}
use Rattle.log_records.specs.Record.{own_lsn}
use Rattle.log_rules.specs.Checkpoint.{Checkpoint, IsCompleteCheckpoint, checkpoint_after, open_checkpoint}
use Rattle.log_rules.specs.Linked.{HasOldTxns, IsLinked, MayEnd, MayFollow}
use Rattle.log_rules.specs.Transactions.{begun, first_lsn, is_open, open_in, records_of, txn_of}
use Rattle.log_rules.proofs.Public.{begun_bounds, open_has_begun}
use Rattle.log_rules.proofs.Public.{is_open_push_other, records_of_push_other}
use Rattle.loser_undo.specs.Tail.{IsTailOf, open_txn, open_txns, told}
use Rattle.loser_undo.proofs.Tails.{among_open, is_named, known_of, named_by, told_all}
use Rattle.log_rules.proofs.Public.{filter-filter}
use Rattle.std.proofs.lemmas.List.Elements.{filter_agree}

-- ---- records that do not name a transaction leave it as it is

unnamed : (r : Record) (t : ℕ) → t ≢ 0 → eqb (named_by r) t ≡ false → txn_of r ≢ t
unnamed (ChkptTxns lsn begin u state last undo) t some other same = some (sym same)
unnamed (Begin lsn u) t some other same = eqb-false u t other same
unnamed (Update lsn u prev page slot change) t some other same = eqb-false u t other same
unnamed (Comp lsn u prev undo page slot change) t some other same = eqb-false u t other same
unnamed (Commit lsn u prev) t some other same = eqb-false u t other same
unnamed (Abort lsn u prev) t some other same = eqb-false u t other same
unnamed (End lsn u prev) t some other same = eqb-false u t other same
unnamed (BeginChkpt lsn) t some other same = some (sym same)
unnamed (ChkptPages lsn begin pages) t some other same = some (sym same)
unnamed (EndChkpt lsn begin redo) t some other same = some (sym same)
unnamed (Extend lsn pages) t some other same = some (sym same)

record IsLeft (before after : List Record) (t : ℕ) : Type 0 where
  still_open : is_open after t ≡ is_open before t
  records : records_of after t ≡ records_of before t

left_by : (rs p : List Record) (t : ℕ) → t ≢ 0 → is_named p t ≡ false → IsLeft rs (rs ++ p) t
left_by rs [] t some out = record {
  still_open = ap (λ (xs : List Record). is_open xs t) (append-nil rs);
  records = ap (λ (xs : List Record). records_of xs t) (append-nil rs);
}
left_by rs (r ∷ p) t some out =
    let parts = or_parts (eqb (named_by r) t) (is_named p t) out in
    let other = unnamed r t some parts.0 in
    let rest = left_by (rs ++ r ∷ []) p t some parts.1 in
    let again : (rs ++ r ∷ []) ++ p ≡ rs ++ r ∷ p = append_assoc rs (r ∷ []) p in
    record {
      still_open = ap (λ (xs : List Record). is_open xs t) (sym again) ∙ rest.still_open ∙ is_open_push_other rs r t other;
      records = ap (λ (xs : List Record). records_of xs t) (sym again) ∙ rest.records ∙ records_of_push_other rs r t other;
    }

first_below : (b : ℕ) (xs : List Record) → 0 < b → All (λ r. own_lsn r < b) xs
    → option_map_or own_lsn (slice_get xs 0) 0 < b
first_below b [] some all = some
first_below b (x ∷ xs) some all = All-head (λ r. own_lsn r < b) x xs all

-- ---- what an open checkpoint has is of its own records

begin_below : (b : ℕ) (p : List Record) (o : Option Checkpoint) → IfSome o (λ c. c.begin < b) → All (λ r. own_lsn r < b) p
    → IfSome (fold checkpoint_after o p) (λ c. c.begin < b)
begin_below b [] o below all = below
begin_below b (r ∷ p) o below all =
    begin_below b p (checkpoint_after o r) (step r o (All-head (λ r. own_lsn r < b) r p all) below)
    (All-tail (λ r. own_lsn r < b) r p all)
  where
    step : (r : Record) (o : Option Checkpoint) → own_lsn r < b → IfSome o (λ c. c.begin < b)
        → IfSome (checkpoint_after o r) (λ c. c.begin < b)
    step (BeginChkpt lsn) o lt below = lt
    step (ChkptPages lsn begin pages) None lt below = tt
    step (ChkptPages lsn begin pages) (Some c) lt below = below
    step (ChkptTxns lsn begin t state last undo) None lt below = tt
    step (ChkptTxns lsn begin t state last undo) (Some c) lt below = below
    step (EndChkpt lsn begin redo) o lt below = tt
    step (Extend lsn pages) o lt below = below
    step (Begin lsn u) o lt below = below
    step (Update lsn u prev page slot change) o lt below = below
    step (Comp lsn u prev undo page slot change) o lt below = below
    step (Commit lsn u prev) o lt below = below
    step (Abort lsn u prev) o lt below = below
    step (End lsn u prev) o lt below = below

entries_named : (N : ℕ → Type 0) (p : List Record) (o : Option Checkpoint) → IfSome o (λ c. All N c.txns)
    → All (λ r. N (named_by r)) p → IfSome (fold checkpoint_after o p) (λ c. All N c.txns)
entries_named N [] o has all = has
entries_named N (r ∷ p) o has all =
    entries_named N p (checkpoint_after o r) (step r o (All-head (λ r. N (named_by r)) r p all) has)
    (All-tail (λ r. N (named_by r)) r p all)
  where
    step : (r : Record) (o : Option Checkpoint) → N (named_by r) → IfSome o (λ c. All N c.txns)
        → IfSome (checkpoint_after o r) (λ c. All N c.txns)
    step (BeginChkpt lsn) o it has = All-nil N
    step (ChkptPages lsn begin pages) None it has = tt
    step (ChkptPages lsn begin pages) (Some c) it has = has
    step (ChkptTxns lsn begin t state last undo) None it has = tt
    step (ChkptTxns lsn begin t state last undo) (Some c) it has = All-push N c.txns t has it
    step (EndChkpt lsn begin redo) o it has = tt
    step (Extend lsn pages) o it has = has
    step (Begin lsn u) o it has = has
    step (Update lsn u prev page slot change) o it has = has
    step (Comp lsn u prev undo page slot change) o it has = has
    step (Commit lsn u prev) o it has = has
    step (Abort lsn u prev) o it has = has
    step (End lsn u prev) o it has = has

-- records name what they name
all_name : (p : List Record) → All (λ r. is_named p (named_by r) ≡ true) p
all_name [] = All-nil (λ (r : Record). is_named [] (named_by r) ≡ true)
all_name (x ∷ p) =
    All-cons (λ r. is_named (x ∷ p) (named_by r) ≡ true) x p
    (ap (λ b. b || is_named p (named_by x)) (eq-eqb (named_by x) (named_by x) refl))
    (All-weaker (λ r. is_named p (named_by r) ≡ true) (λ r. is_named (x ∷ p) (named_by r) ≡ true)
    (λ r is. or_right (eqb (named_by x) (named_by r)) (is_named p (named_by r)) is) p (all_name p))

-- what holds of all holds of one that is among them
of_among : (P : ℕ → Type 0) (t : ℕ) (ns : List ℕ) → All P ns → list_any (λ n. eqb n t) ns ≡ true → P t
of_among P t [] all there = cc
of_among P t (n ∷ ns) all there = elim (cases_eq n t) [
  | inl same ↦ subst P same (All-head P n ns all)
  | inr other ↦
      of_among P t ns (All-tail P n ns all) (sym (ap (λ b. b || list_any (λ m. eqb m t) ns) (ne_eqb n t other)) ∙ there)
]

-- ---- the checkpoint where it ends

-- what the entries of the checkpoint name, the tail names
from_entries : (t begin redo : ℕ) (N : ℕ → Type 0) (at : List Record) (o : Option Checkpoint)
    → IsSomeAnd o (λ c. MayEnd begin redo c × HasOldTxns at c) → IfSome o (λ c. All N c.txns)
    → list_any (λ n. eqb n t) (open_in at) ≡ true → first_lsn at t < begin → N t
from_entries t begin redo N at None may has there first = absurd may
from_entries t begin redo N at (Some c) may has there first =
    let same = may.0.same in
    let old : first_lsn at t < c.begin = subst (λ n. first_lsn at t < n) same first in
    All-contains N c.txns t has
    (of_among (λ u. first_lsn at u < c.begin → Contains c.txns u) t (open_in at) may.1 there old)

not_below : (begin redo : ℕ) (P : Checkpoint → Type 0) (o : Option Checkpoint)
    → IsSomeAnd o (λ c. MayEnd begin redo c × P c) → IfSome o (λ c. c.begin < begin) → ⊥
not_below begin redo P None may below = may
not_below begin redo P (Some c) may below = let same = may.0.same in omega (arith, same, below)

-- a record of the list stands behind those before it
may_end : (rs before behind : List Record) (r : Record) → rs ≡ before ++ r ∷ behind → IsLinked rs → MayFollow before r
may_end rs before behind r is linked =
    let n = length before in
    let long = length-append before (r ∷ behind) in
    subst₂ MayFollow (take_at before (r ∷ behind) n refl) (get_or_at before r behind r n refl)
    (subst IsLinked is linked n r (omega (arith, long)))

named_in : (rs before tail behind : List Record) (begin end : ℕ) → rs ≡ before ++ tail
    → tail ≡ BeginChkpt begin ∷ behind → All (λ r. own_lsn r < begin) before → 0 < begin → IsLinked rs
    → IsCompleteCheckpoint rs begin end → (t : ℕ) → t ≢ 0 → is_open rs t ≡ true → is_named tail t ≡ false
    → is_named tail t ≡ true
named_in rs before tail behind begin end is begins earlier some linked complete t no_zero still unnamed_all =
    let r = EndChkpt end begin complete.redo in
    let k = length before in
    let e = length complete.before in
    let may = may_end rs complete.before complete.behind r complete.ended linked in
    let cut : complete.before ≡ take e (before ++ tail) =
    sym (take_at complete.before (r ∷ complete.behind) e refl) ∙ ap (take e) (sym complete.ended ∙ is) in
    elim (cases_lt k e) [
      | inl later ↦ inside may cut later
      | inr sooner ↦
          let all : All (λ x. own_lsn x < begin) complete.before =
          subst (λ (xs : List Record). All (λ x. own_lsn x < begin) xs) (sym (cut ∙ take-append-le e before tail sooner))
          (All-take (λ x. own_lsn x < begin) e before earlier) in
          absurd (not_below begin complete.redo (HasOldTxns complete.before) (open_checkpoint complete.before) may
          (begin_below begin complete.before None tt all))
    ]
  where
    inside : MayFollow complete.before (EndChkpt end begin complete.redo)
        → complete.before ≡ take (length complete.before) (before ++ tail) → length before < length complete.before
        → is_named tail t ≡ true
    inside may cut later =
        let first = BeginChkpt begin in
        let m = length complete.before - length before - 1 in
        let p = first ∷ take m behind in
        let N : ℕ → Type 0 = λ u. is_named tail u ≡ true in
        let count : length complete.before ≡ length before + suc m = omega arith in
        let at : complete.before ≡ before ++ p =
        cut ∙ ap (λ n. take n (before ++ tail)) count ∙ take-append-add before tail (suc m)
        ∙ ap (λ (xs : List Record). before ++ take (suc m) xs) begins in
        let whole : tail ≡ p ++ drop m behind =
        begins ∙ ap (λ (xs : List Record). first ∷ xs) (sym (take-append-drop m behind)) in
        let out = or_parts (is_named p t) (is_named (drop m behind) t)
        (sym (list_any-append (λ x. eqb (named_by x) t) p (drop m behind))
        ∙ sym (ap (λ (xs : List Record). is_named xs t) whole) ∙ unnamed_all) in
        let left = left_by before p t no_zero out.0 in
        let all_left = left_by before tail t no_zero unnamed_all in
        let was : is_open before t ≡ true =
        sym all_left.still_open ∙ sym (ap (λ (xs : List Record). is_open xs t) is) ∙ still in
        let old : first_lsn (before ++ p) t < begin =
        subst (λ (xs : List Record). option_map_or own_lsn (slice_get xs 0) 0 < begin) (sym left.records)
        (first_below begin (records_of before t) some
        (All-filter (λ x. eqb (txn_of x) t) (λ x. own_lsn x < begin) before earlier)) in
        let new : Checkpoint = record { begin = begin; pages = []; txns = [] } in
        let own : All (λ x. N (named_by x)) (first ∷ behind) =
        subst (λ (xs : List Record). All (λ x. N (named_by x)) xs) begins (all_name tail) in
        let has = entries_named N (take m behind) (Some new) (All-nil N)
        (All-take (λ x. N (named_by x)) m behind (All-tail (λ x. N (named_by x)) first behind own)) in
        from_entries t begin complete.redo N (before ++ p) (open_checkpoint (before ++ p))
        (subst (λ (xs : List Record). MayFollow xs (EndChkpt end begin complete.redo)) at may)
        (subst (λ (o : Option Checkpoint). IfSome o (λ c. All N c.txns)) (sym (fold-append checkpoint_after None before p)) has)
        (among_open (before ++ p) t (left.still_open ∙ was)) old

-- the records before the tail stand below its BeginChkpt
all_earlier : (log : Log) (tail : List Record) (of : IsTailOf log tail)
    → All (λ r. own_lsn r < of.begin) of.before × (0 < of.begin)
all_earlier log tail of =
    let k = length of.before in
    let first = BeginChkpt of.begin in
    let is : log.records ≡ of.before ++ first ∷ of.behind =
    of.is ∙ ap (λ (xs : List Record). of.before ++ xs) of.begins in
    let long = ap length is ∙ length-append of.before (first ∷ of.behind) in
    let here : get_or log.records k first ≡ first =
    ap (λ (xs : List Record). get_or xs k first) is ∙ get_or_at of.before first of.behind first k refl in
    let stands = of.valid.records k first (omega (arith, long)) in
    let begin : of.begin ≡ lsn_of k = sym (ap own_lsn here) ∙ stands.lsn in (
      λ i d lt.
          let there = of.valid.records i d (omega (arith, long)) in
          let same : own_lsn (get_or of.before i d) ≡ lsn_of i =
          sym (ap own_lsn (ap (λ (xs : List Record). get_or xs i d) is
          ∙ get_or_append_left of.before (first ∷ of.behind) d i lt)) ∙ there.lsn in
          omega (arith, begin, same),
      omega (arith, begin),
    )

pub all_named : (log : Log) (tail : List Record) → IsTailOf log tail → (t : ℕ) → is_open log.records t ≡ true
    → is_named tail t ≡ true
all_named log tail of t still = elim (cases_Bool (is_named tail t)) [
  | inl is ↦ is
  | inr not_it ↦
      let earlier = all_earlier log tail of in
      let number = begun_bounds log.records of.linked t (open_has_begun log.records t still) in
      named_in log.records of.before tail of.behind of.begin of.end of.is of.begins earlier.0 earlier.1 of.linked
      of.complete t (λ zero. absurd (omega (arith, number.0, zero))) still not_it
]

-- so the tail tells of all of them
pub told_tail : (log : Log) (tail : List Record) → IsTailOf log tail → fold told [] tail ≡ open_txns log.records
told_tail log tail of =
    let rs = log.records in
    told_all of.before tail (subst IsLinked of.is of.linked)
    ∙ ap (λ (xs : List Record). known_of xs (is_named tail)) (sym of.is)
    ∙ ap (map (open_txn rs)) (filter-filter (is_open rs) (is_named tail) (begun rs)
    ∙ filter_agree (λ t. is_open rs t && is_named tail t) (is_open rs) each (begun rs))
  where
    each : (t : ℕ) → (is_open log.records t && is_named tail t) ≡ is_open log.records t
    each t = elim (cases_Bool (is_open log.records t)) [
      | inl still ↦
          ap (λ b. b && is_named tail t) still ∙ all_named log tail of t still ∙ sym still
      | inr closed ↦ ap (λ b. b && is_named tail t) closed ∙ sym closed
    ]
