-- What the records from a checkpoint on tell of a log's open transactions, record by record.
use Rattle.std.proofs.Common.{◌≡◌, ◌≢◌, ℕ, ◌+◌, ◌<◌, Bool, true, false, ◌&&◌, ◌||◌, not, eqb, List, [], ◌∷◌, ◌++◌}
use Rattle.std.proofs.Common.{length, map, sym, refl, ap, ap₂, subst, ◌∙◌, inl, inr, arith, ne_eqb, eq-eqb, eqb-true}
use Rattle.std.proofs.Common.{append_assoc}
use Rattle.std.specs.Prelude.{None}
use Rattle.std.specs.List.{All, filter, fold, list_any}
use Rattle.std.proofs.lemmas.Bool.{and_left, cases_eq}
use Rattle.std.proofs.lemmas.List.{append-nil, map_push, take_at}
use Rattle.std.proofs.lemmas.List.Elements.{All-filter, All-map, All-weaker, filter_agree, filter_passes, recursion_from_All}
use Rattle.std.proofs.lemmas.List.Kept.{AllPairs-from_increasing}
use Rattle.std.proofs.lemmas.Map.Views.{any-filter_same}
use Rattle.std.proofs.Math.Bool.{or-false, or-true}
use Rattle.log_records.specs.declared.record.Record.{Record}
use Rattle.log_records.specs.declared.record.Record.TheVariants.{Begin, Update, Comp, Commit, Abort, End, BeginChkpt}
use Rattle.log_records.specs.declared.record.Record.TheVariants.{ChkptPages, ChkptTxns, EndChkpt, Extend}
use Rattle.log_records.specs.Record.{own_lsn}
use Rattle.log_rules.specs.Linked.{IsLinked, MayFollow}
use Rattle.log_rules.specs.Transactions.{begun, begun_by, is_last, is_open, last_or, open_in, txn_of}
use Rattle.log_rules.proofs.Public.{begun_bounds, next_is_new, none_before_begin, open_has_begun, open_in-IsStrictlyIncreasing, zero_not_open}
use Rattle.log_rules.proofs.Public.{filter-filter, filter-map, filter_agree_but, filter_push_in, map_agree_but}
use Rattle.log_rules.proofs.Public.{has_begun, has_ended, last_lsn_push, open_in_push_begin, open_in_push_last, open_in_push_same, records_of_push_other}
use Rattle.log_rules.proofs.Public.{not_among}
use Rattle.log_rules.proofs.Public.{linked-take, linked_pop}
use Rattle.loser_undo.specs.declared.tail.OpenTxn.{OpenTxn}
use Rattle.loser_undo.specs.Tail.{open_txn, told, with_txn, without_txn}
use Rattle.loser_undo.proofs.Known.{AreRising, or_it, put_known, put_last, rising_from}

-- ---- the transaction that a record names

-- a checkpoint's entry names one too
abbrev pub named_by : Record → ℕ
named_by (ChkptTxns lsn begin t state last undo) = t
named_by other = txn_of other

-- some of these records name it
abbrev pub is_named : List Record → ℕ → Bool
is_named rs t = list_any (λ r. eqb (named_by r) t) rs

-- ---- what is known after some records of a log

-- of the open transactions those that are named
abbrev pub known_of : List Record → (ℕ → Bool) → List OpenTxn
known_of rs named = map (open_txn rs) (filter named (open_in rs))

other_stays : (rs : List Record) (r : Record) (n : ℕ) → n ≢ txn_of r → open_txn (rs ++ r ∷ []) n ≡ open_txn rs n
other_stays rs r n other =
    ap (λ (xs : List Record). record { txn = n; last = last_or 0 (map own_lsn xs) })
    (records_of_push_other rs r n (λ same. other (sym same)))

-- a transaction that is not open is none of them
absent : (rs : List Record) (named : ℕ → Bool) (t : ℕ) → is_open rs t ≡ false
    → list_any (λ n. eqb n t) (filter named (open_in rs)) ≡ false
absent rs named t closed =
    ap (list_any (λ n. eqb n t)) (filter-filter (is_open rs) named (begun rs))
    ∙ not_among (λ x. is_open rs x && named x) t (and_left (is_open rs t) (named t) closed) (begun rs)

pub among_open : (rs : List Record) (t : ℕ) → is_open rs t ≡ true → list_any (λ n. eqb n t) (open_in rs) ≡ true
among_open rs t still =
    any-filter_same (λ n. eqb n t) (is_open rs) true (λ n is. ap (is_open rs) (eqb-true n t is) ∙ still) (begun rs)
    ∙ open_has_begun rs t still

-- ---- one record more

-- a record of no transaction
known_same : (rs : List Record) (r : Record) (named : ℕ → Bool) → IsLinked rs → begun_by r ≡ None → is_last r ≡ false
    → txn_of r ≡ 0 → known_of (rs ++ r ∷ []) named ≡ known_of rs named
known_same rs r named linked none more no_txn =
    let after = open_txn (rs ++ r ∷ []) in
    ap (λ (ns : List ℕ). map after (filter named ns)) (open_in_push_same rs r none more)
    ∙ map_agree_but 0 after (open_txn rs) (λ n other. other_stays rs r n (λ same. other (same ∙ no_txn)))
    (filter named (open_in rs)) (absent rs named 0 (zero_not_open rs linked))

aside_step : (rs : List Record) (r : Record) (named : ℕ → Bool) → IsLinked rs → begun_by r ≡ None → is_last r ≡ false
    → txn_of r ≡ 0 → known_of rs named ≡ known_of (rs ++ r ∷ []) (or_it named 0)
aside_step rs r named linked none more no_txn =
    ap (map (open_txn rs)) (filter_agree_but 0 named (or_it named 0)
    (λ n other. sym (or-false (named n)) ∙ ap (λ b. named n || b) (sym (ne_eqb 0 n (λ same. other (sym same)))))
    (open_in rs) (not_among (is_open rs) 0 (zero_not_open rs linked) (begun rs)))
    ∙ sym (known_same rs r (or_it named 0) linked none more no_txn)

rising : (rs : List Record) → IsLinked rs → AreRising (open_in rs)
rising rs linked = rising_from (open_in rs) (AllPairs-from_increasing (open_in rs) (open_in-IsStrictlyIncreasing rs linked))

-- a record of an open transaction
kept_step : (rs : List Record) (r : Record) (named : ℕ → Bool) → IsLinked rs → begun_by r ≡ None → is_last r ≡ false
    → is_open rs (txn_of r) ≡ true
    → with_txn (record { txn = txn_of r; last = own_lsn r }) (known_of rs named)
    ≡ known_of (rs ++ r ∷ []) (or_it named (txn_of r))
kept_step rs r named linked none more still =
    let t = txn_of r in
    let after = open_txn (rs ++ r ∷ []) in
    put_known (open_txn rs) named t (open_in rs) (λ n. refl) (rising rs linked) (among_open rs t still)
    (record { txn = t; last = own_lsn r }) refl after
    (ap (λ n. record { txn = t; last = n }) (last_lsn_push rs r t refl)) (λ n other. other_stays rs r n other)
    ∙ ap (λ (ns : List ℕ). map after (filter (or_it named t) ns)) (sym (open_in_push_same rs r none more))

-- a checkpoint's entry
entry_step : (rs : List Record) (lsn begin t : ℕ) (r : Record) (named : ℕ → Bool) → IsLinked rs → begun_by r ≡ None
    → is_last r ≡ false → txn_of r ≡ 0 → is_open rs t ≡ true
    → with_txn (open_txn rs t) (known_of rs named) ≡ known_of (rs ++ r ∷ []) (or_it named t)
entry_step rs lsn begin t r named linked none more no_txn still =
    put_known (open_txn rs) named t (open_in rs) (λ n. refl) (rising rs linked) (among_open rs t still)
    (open_txn rs t) refl (open_txn rs) refl (λ n other. refl)
    ∙ sym (known_same rs r (or_it named t) linked none more no_txn)

-- a transaction's last record
last_step : (rs : List Record) (r : Record) (named : ℕ → Bool) → begun_by r ≡ None → is_last r ≡ true
    → without_txn (txn_of r) (known_of rs named) ≡ known_of (rs ++ r ∷ []) (or_it named (txn_of r))
last_step rs r named none last =
    let t = txn_of r in
    let others = λ (n : ℕ). not (eqb n t) in
    let both = λ (n : ℕ). others n && or_it named t n in
    let after = open_txn (rs ++ r ∷ []) in
    let out : both t ≡ false = ap (λ b. not b && or_it named t t) (eq-eqb t t refl) in
    filter-map (open_txn rs) (λ (o : OpenTxn). not (eqb o.txn t)) (filter named (open_in rs))
    ∙ ap (map (open_txn rs)) (filter-filter named others (open_in rs) ∙ filter_agree _ both (same t) (open_in rs))
    ∙ sym (map_agree_but t after (open_txn rs) (λ n other. other_stays rs r n other) (filter both (open_in rs))
    (not_among both t out (open_in rs)))
    ∙ ap (map after) (sym (filter-filter others (or_it named t) (open_in rs)))
    ∙ ap (λ (ns : List ℕ). map after (filter (or_it named t) ns)) (sym (open_in_push_last rs r none last))
  where
    never : (b : Bool) → (b && false) ≡ false
    never true = refl
    never false = refl

    always : (b : Bool) → (b && true) ≡ (b || false)
    always true = refl
    always false = refl

    same : (t n : ℕ) → (named n && not (eqb n t)) ≡ (not (eqb n t) && (named n || eqb t n))
    same t n = elim (cases_eq n t) [
      | inl is ↦
          ap (λ b. named n && not b) (eq-eqb n t is) ∙ never (named n)
          ∙ sym (ap (λ b. not b && (named n || eqb t n)) (eq-eqb n t is))
      | inr other ↦
          ap (λ b. named n && not b) (ne_eqb n t other) ∙ always (named n)
          ∙ sym (ap₂ (λ a b. not a && (named n || b)) (ne_eqb n t other) (ne_eqb t n (λ is. other (sym is))))
    ]

begin_step : (rs : List Record) (lsn t : ℕ) (named : ℕ → Bool) → IsLinked rs → t ≡ length (begun rs) + 1
    → with_txn (record { txn = t; last = lsn }) (known_of rs named) ≡ known_of (rs ++ Begin lsn t ∷ []) (or_it named t)
begin_step rs lsn t named linked next =
    let r = Begin lsn t in
    let x : OpenTxn = record { txn = t; last = lsn } in
    let after = open_txn (rs ++ r ∷ []) in
    let new = next_is_new rs linked t (omega arith) in
    let none = none_before_begin rs linked t (omega arith) new in
    let closed : is_open rs t ≡ false = and_left (has_begun rs t) (not (has_ended rs t)) new in
    let lower : All (λ n. n < t) (filter named (open_in rs)) =
    All-weaker (λ n. is_open rs n ≡ true) (λ n. n < t)
    (λ n still. let within = begun_bounds rs linked n (open_has_begun rs n still) in omega arith)
    (filter named (open_in rs))
    (All-filter named (λ n. is_open rs n ≡ true) (open_in rs) (filter_passes (is_open rs) (begun rs))) in
    let below = recursion_from_All (λ (o : OpenTxn). o.txn < t) (known_of rs named)
    (All-map (λ (o : OpenTxn). o.txn < t) (open_txn rs) (filter named (open_in rs)) lower) in
    let agree = filter_agree_but t (or_it named t) named
    (λ n other. ap (λ b. named n || b) (ne_eqb t n (λ is. other (sym is))) ∙ or-false (named n))
    (open_in rs) (not_among (is_open rs) t closed (begun rs)) in
    let old = map_agree_but t after (open_txn rs) (λ n other. other_stays rs r n other) (filter named (open_in rs))
    (absent rs named t closed) in
    let there : or_it named t t ≡ true = ap (λ b. named t || b) (eq-eqb t t refl) ∙ or-true (named t) in
    let all : known_of (rs ++ r ∷ []) (or_it named t) ≡ known_of rs named ++ x ∷ [] =
    ap (λ (ns : List ℕ). map after (filter (or_it named t) ns)) (open_in_push_begin rs lsn t none new)
    ∙ ap (map after) (filter_push_in (or_it named t) (open_in rs) t there
    ∙ ap (λ (ns : List ℕ). ns ++ t ∷ []) agree)
    ∙ map_push after (filter named (open_in rs)) t
    ∙ ap₂ (λ (xs : List OpenTxn) n. xs ++ record { txn = t; last = n } ∷ []) old (last_lsn_push rs r t refl) in
    put_last x (known_of rs named) below ∙ sym all

told_step : (rs : List Record) (r : Record) (named : ℕ → Bool) → IsLinked rs → MayFollow rs r
    → told (known_of rs named) r ≡ known_of (rs ++ r ∷ []) (or_it named (named_by r))
told_step rs (Begin lsn t) named linked may = begin_step rs lsn t named linked may.next
told_step rs (Update lsn t prev page slot change) named linked may =
    kept_step rs (Update lsn t prev page slot change) named linked refl refl may.active.goes_on.still_open
told_step rs (Comp lsn t prev undo page slot change) named linked may =
    kept_step rs (Comp lsn t prev undo page slot change) named linked refl refl may.0.still_open
told_step rs (Abort lsn t prev) named linked may =
    kept_step rs (Abort lsn t prev) named linked refl refl may.goes_on.still_open
told_step rs (Commit lsn t prev) named linked may = last_step rs (Commit lsn t prev) named refl refl
told_step rs (End lsn t prev) named linked may = last_step rs (End lsn t prev) named refl refl
told_step rs (ChkptTxns lsn begin t state last undo) named linked may =
    ap (λ n. with_txn (record { txn = t; last = n }) (known_of rs named)) may.1.same_last
    ∙ entry_step rs lsn begin t (ChkptTxns lsn begin t state last undo) named linked refl refl refl may.1.still_open
told_step rs (BeginChkpt lsn) named linked may = aside_step rs (BeginChkpt lsn) named linked refl refl refl
told_step rs (ChkptPages lsn begin pages) named linked may =
    aside_step rs (ChkptPages lsn begin pages) named linked refl refl refl
told_step rs (EndChkpt lsn begin redo) named linked may = aside_step rs (EndChkpt lsn begin redo) named linked refl refl refl
told_step rs (Extend lsn pages) named linked may = aside_step rs (Extend lsn pages) named linked refl refl refl

-- ---- all of them

told_more : (rs : List Record) (named : ℕ → Bool) (rest : List Record) → IsLinked (rs ++ rest)
    → fold told (known_of rs named) rest ≡ known_of (rs ++ rest) (λ t. named t || is_named rest t)
told_more rs named [] linked =
    ap (λ (xs : List Record). known_of xs named) (sym (append-nil rs))
    ∙ ap (map (open_txn (rs ++ []))) (filter_agree named (λ t. named t || false) (λ t. sym (or-false (named t))) (open_in (rs ++ [])))
told_more rs named (r ∷ rest) linked =
    let again : (rs ++ r ∷ []) ++ rest ≡ rs ++ r ∷ rest = append_assoc rs (r ∷ []) rest in
    let linked_again = subst IsLinked (sym again) linked in
    let so_far = subst IsLinked (take_at (rs ++ r ∷ []) rest (length (rs ++ r ∷ [])) refl)
    (linked-take ((rs ++ r ∷ []) ++ rest) linked_again (length (rs ++ r ∷ []))) in
    let parts = linked_pop rs r so_far in
    let named_now = λ (t : ℕ). (named t || eqb (named_by r) t) || is_named rest t in
    ap (λ (known : List OpenTxn). fold told known rest) (told_step rs r named parts.0 parts.1)
    ∙ told_more (rs ++ r ∷ []) (or_it named (named_by r)) rest linked_again
    ∙ ap (λ (xs : List Record). known_of xs named_now) again
    ∙ ap (map (open_txn (rs ++ r ∷ rest)))
    (filter_agree named_now (λ t. named t || is_named (r ∷ rest) t)
    (λ t. joined (named t) (eqb (named_by r) t) (is_named rest t)) (open_in (rs ++ r ∷ rest)))
  where
    joined : (a b c : Bool) → ((a || b) || c) ≡ (a || (b || c))
    joined true b c = refl
    joined false b c = refl

none_named : (ns : List ℕ) → filter (λ t. false) ns ≡ []
none_named [] = refl
none_named (n ∷ ns) = none_named ns

pub told_all : (before tail : List Record) → IsLinked (before ++ tail)
    → fold told [] tail ≡ known_of (before ++ tail) (is_named tail)
told_all before tail linked =
    ap (λ (known : List OpenTxn). fold told known tail) (ap (map (open_txn before)) (sym (none_named (open_in before))))
    ∙ told_more before (λ t. false) tail linked
