-- The changes that undo finds are those that are pending for the open transactions.
use Rattle.std.proofs.Common.{◌≡◌, ◌≢◌, ℕ, ◌+◌, ◌-◌, ◌<◌, ◌≤◌, Bool, true, false, cond, ◌&&◌, ◌||◌, eqb, List, [], ◌∷◌}
use Rattle.std.proofs.Common.{◌++◌, length, get_or, map, sym, refl, ap, ap₂, subst, ◌∙◌, inl, inr, arith, append_assoc}
use Rattle.std.proofs.Common.{append-nil, eq-eqb, ne_eqb}
use Rattle.std.specs.Prelude.{Option, Some, None}
use Rattle.std.specs.List.{AllByRecursion, cons_option, filter, filter_map, list_any}
use Rattle.std.proofs.lemmas.Bool.{cases_eq}
use Rattle.std.proofs.lemmas.List.{map-append, take_all, take_more}
use Rattle.std.proofs.lemmas.List.Folds.{list_any-append}
use Rattle.std.proofs.Math.Bool.{or-true}
use Rattle.log_records.specs.declared.record.Record.{Record}
use Rattle.log_records.specs.declared.record.Record.TheVariants.{Update, Comp}
use Rattle.log_records.specs.Record.{own_lsn}
use Rattle.log_rules.specs.declared.pending_change.PendingChange.{PendingChange}
use Rattle.log_rules.specs.Transactions.{is_open, pending, pending_from, records_of, txn_of, without_last}
use Rattle.log_rules.proofs.Public.{filter_push, filter_push_out}
use Rattle.loser_undo.specs.Undo.{LostChange, is_lost, lost_by}
use Rattle.loser_undo.proofs.Rising.{IsRising, all_but, others_differ, rising_but, rising_filter}

-- ---- the changes of one transaction

abbrev pub of_txn : ℕ → LostChange → Bool
of_txn t l = eqb l.txn t

abbrev pub changes_of : ℕ → List LostChange → List PendingChange
changes_of t ls = map (λ l. l.change) (filter (of_txn t) ls)

abbrev pub has_lsn : ℕ → PendingChange → Bool
has_lsn n p = eqb p.lsn n

abbrev pub lsns : List PendingChange → List ℕ
lsns ps = map (λ p. p.lsn) ps

-- the change of an Update, if it is among these
abbrev among : List PendingChange → Record → Option PendingChange
among ps (Update lsn txn prev page slot change) = cond (list_any (has_lsn lsn) ps) (Some (record {
  lsn = lsn;
  prev = prev;
  page = page;
  slot = slot;
  change = change;
})) None
among ps other = None

skipped : (h : Record → Option PendingChange) (r : Record) (rs : List Record) (b : Bool) → h r ≡ None
    → filter_map h (cond b (r ∷ rs) rs) ≡ filter_map h rs
skipped h r rs true none = ap (λ o. cons_option o (filter_map h rs)) none
skipped h r rs false none = refl

-- the changes of a transaction with one more, if there is one
abbrev with_one : ℕ → LostChange → List LostChange → Bool → List PendingChange
with_one t l rest b = changes_of t (cons_option (cond b (Some l) None) rest)

one_of_it : (t : ℕ) (l : LostChange) (rest : List LostChange) (ps : List PendingChange) → eqb l.txn t ≡ true
    → changes_of t rest ≡ ps → (b : Bool) → with_one t l rest b ≡ cons_option (cond b (Some l.change) None) ps
one_of_it t l rest ps own behind true =
    ap (λ b. map (λ (k : LostChange). k.change) (cond b (l ∷ filter (of_txn t) rest) (filter (of_txn t) rest))) own
    ∙ ap (λ qs. l.change ∷ qs) behind
one_of_it t l rest ps own behind false = behind

one_of_other : (t : ℕ) (l : LostChange) (rest : List LostChange) → eqb l.txn t ≡ false → (b : Bool)
    → with_one t l rest b ≡ changes_of t rest
one_of_other t l rest other true =
    ap (λ b. map (λ (k : LostChange). k.change) (cond b (l ∷ filter (of_txn t) rest) (filter (of_txn t) rest))) other
one_of_other t l rest other false = refl

its_lost : (rs : List Record) (t : ℕ) → is_open rs t ≡ true → (xs : List Record)
    → changes_of t (filter_map (lost_by rs) xs) ≡ filter_map (among (pending rs t)) (records_of xs t)
its_lost rs t still [] = refl
its_lost rs t still (Update lsn u prev page slot change ∷ xs) =
    let r = Update lsn u prev page slot change in
    let p : PendingChange = record { lsn = lsn; prev = prev; page = page; slot = slot; change = change } in
    let l : LostChange = record { txn = u; change = p } in
    let rest = filter_map (lost_by rs) xs in
    let ps = filter_map (among (pending rs t)) (records_of xs t) in
    let behind = its_lost rs t still xs in
    let its = λ (b : Bool). filter_map (among (pending rs t)) (cond b (r ∷ records_of xs t) (records_of xs t)) in
    elim (cases_eq u t) [
      | inl same ↦
          let has = list_any (has_lsn lsn) (pending rs t) in
          let lost = ap (λ n. is_lost rs n lsn) same ∙ ap (λ b. b && has) still in
          ap (with_one t l rest) lost ∙ one_of_it t l rest ps (eq-eqb u t same) behind has
          ∙ sym (ap its (eq-eqb u t same))
      | inr other ↦
          one_of_other t l rest (ne_eqb u t other) (is_lost rs u lsn) ∙ behind ∙ sym (ap its (ne_eqb u t other))
    ]
its_lost rs t still (r ∷ xs) =
    its_lost rs t still xs ∙ sym (skipped (among (pending rs t)) r (records_of xs t) (eqb (txn_of r) t) refl)

-- ---- a list and its last

pub last_apart : (p : PendingChange) (ps : List PendingChange)
    → p ∷ ps ≡ without_last (p ∷ ps) ++ get_or (p ∷ ps) (length (p ∷ ps) - 1) p ∷ []
last_apart p ps =
    let i = length (p ∷ ps) - 1 in
    let within : i < length (p ∷ ps) = omega arith in
    let all : length (p ∷ ps) ≤ i + 1 = omega arith in
    sym (take_all (i + 1) (p ∷ ps) all) ∙ take_more (p ∷ ps) i p within

lsns_push : (ps : List PendingChange) (p : PendingChange) (ns : List ℕ)
    → lsns (ps ++ p ∷ []) ++ ns ≡ lsns ps ++ p.lsn ∷ ns
lsns_push ps p ns =
    ap (λ ms. ms ++ ns) (map-append (λ (q : PendingChange). q.lsn) ps (p ∷ [])) ∙ append_assoc (lsns ps) (p.lsn ∷ []) ns

-- what stays true of numbers when one is left out stays true of LSNs without the last one's
pop : (T : List ℕ → Type 0) → ((ms : List ℕ) (n : ℕ) (ns : List ℕ) → T (ms ++ n ∷ ns) → T (ms ++ ns))
    → (ps : List PendingChange) (ns : List ℕ) → T (lsns ps ++ ns) → T (lsns (without_last ps) ++ ns)
pop T but [] ns all = all
pop T but (p ∷ ps) ns all =
    let front = without_last (p ∷ ps) in
    let last = get_or (p ∷ ps) (length (p ∷ ps) - 1) p in
    but (lsns front) last.lsn ns
    (subst T (ap (λ qs. lsns qs ++ ns) (last_apart p ps) ∙ lsns_push front last ns) all)

-- ---- what is pending stays in the list of the records that made it

-- the pending changes have LSNs of these records
lsns_from : (P : ℕ → Type 0) (ps : List PendingChange) (xs : List Record)
    → AllByRecursion P (lsns ps ++ map own_lsn xs) → AllByRecursion P (lsns (pending_from ps xs))
lsns_from P ps [] all = subst (AllByRecursion P) (append-nil (lsns ps)) all
lsns_from P ps (Update lsn u prev page slot change ∷ xs) all =
    let p : PendingChange = record { lsn = lsn; prev = prev; page = page; slot = slot; change = change } in
    lsns_from P (ps ++ p ∷ []) xs (subst (AllByRecursion P) (sym (lsns_push ps p (map own_lsn xs))) all)
lsns_from P ps (Comp lsn u prev undo_next page slot change ∷ xs) all =
    let fewer = all_but P (lsns ps) lsn (map own_lsn xs) all in
    lsns_from P (without_last ps) xs (pop (AllByRecursion P) (all_but P) ps (map own_lsn xs) fewer)
lsns_from P ps (r ∷ xs) all = lsns_from P ps xs (all_but P (lsns ps) (own_lsn r) (map own_lsn xs) all)

pub none_has : (n : ℕ) (ps : List PendingChange) → AllByRecursion (λ m. m ≢ n) (lsns ps)
    → list_any (has_lsn n) ps ≡ false
none_has n [] all = refl
none_has n (p ∷ ps) all = ap₂ (λ a b. a || b) (ne_eqb p.lsn n all.0) (none_has n ps all.1)

-- it is among them
abbrev stays : List PendingChange → PendingChange → Bool
stays ps p = list_any (has_lsn p.lsn) ps

all_stay : (before ps : List PendingChange) → filter (stays (before ++ ps)) ps ≡ ps
all_stay before [] = refl
all_stay before (p ∷ ps) =
    let test = stays (before ++ p ∷ ps) in
    let here : test p ≡ true =
    list_any-append (has_lsn p.lsn) before (p ∷ ps)
    ∙ ap (λ b. list_any (has_lsn p.lsn) before || (b || list_any (has_lsn p.lsn) ps)) (eq-eqb p.lsn p.lsn refl)
    ∙ or-true (list_any (has_lsn p.lsn) before) in
    let behind = ap (λ qs. filter (stays qs) ps) (sym (append_assoc before (p ∷ []) ps))
    ∙ all_stay (before ++ p ∷ []) ps in
    ap (λ b. cond b (p ∷ filter test ps) (filter test ps)) here ∙ ap (λ qs. p ∷ qs) behind

-- the last one is compensated, so it does not stay
last_goes : (now ps : List PendingChange) (n : ℕ) (xs : List Record) → now ≡ pending_from (without_last ps) xs
    → IsRising (lsns ps ++ n ∷ map own_lsn xs) → filter (stays now) (without_last ps) ≡ filter (stays now) ps
last_goes now [] n xs is rising = refl
last_goes now (p ∷ ps) n xs is rising =
    let front = without_last (p ∷ ps) in
    let last = get_or (p ∷ ps) (length (p ∷ ps) - 1) p in
    let whole = last_apart p ps in
    let fewer = rising_but (lsns (p ∷ ps)) n (map own_lsn xs) rising in
    let split = subst IsRising
    (ap (λ qs. lsns qs ++ map own_lsn xs) whole ∙ lsns_push front last (map own_lsn xs)) fewer in
    let others = others_differ (lsns front) last.lsn (map own_lsn xs) split in
    let gone : stays now last ≡ false =
    ap (list_any (has_lsn last.lsn)) is
    ∙ none_has last.lsn (pending_from front xs) (lsns_from (λ m. m ≢ last.lsn) front xs others) in
    sym (ap (filter (stays now)) whole ∙ filter_push_out (stays now) front last gone)

found : (now ps : List PendingChange) (xs : List Record) → now ≡ pending_from ps xs
    → IsRising (lsns ps ++ map own_lsn xs) → now ≡ filter (stays now) ps ++ filter_map (among now) xs
found now ps [] is rising =
    is ∙ sym (append-nil (filter (stays now) ps) ∙ ap (λ qs. filter (stays qs) ps) is ∙ all_stay [] ps)
found now ps (Update lsn u prev page slot change ∷ xs) is rising =
    let p : PendingChange = record { lsn = lsn; prev = prev; page = page; slot = slot; change = change } in
    let kept = filter (stays now) ps in
    let rest = filter_map (among now) xs in
    found now (ps ++ p ∷ []) xs is (subst IsRising (sym (lsns_push ps p (map own_lsn xs))) rising)
    ∙ ap (λ qs. qs ++ rest) (filter_push (stays now) ps p) ∙ joined kept rest p (stays now p)
  where
    joined : (qs rest : List PendingChange) (p : PendingChange) (b : Bool)
        → (qs ++ cond b (p ∷ []) []) ++ rest ≡ qs ++ cons_option (cond b (Some p) None) rest
    joined qs rest p true = append_assoc qs (p ∷ []) rest
    joined qs rest p false = ap (λ ms. ms ++ rest) (append-nil qs)
found now ps (Comp lsn u prev undo_next page slot change ∷ xs) is rising =
    let rest = filter_map (among now) xs in
    let fewer = rising_but (lsns ps) lsn (map own_lsn xs) rising in
    found now (without_last ps) xs is (pop IsRising rising_but ps (map own_lsn xs) fewer)
    ∙ ap (λ qs. qs ++ rest) (last_goes now ps lsn xs is rising)
found now ps (r ∷ xs) is rising = found now ps xs is (rising_but (lsns ps) (own_lsn r) (map own_lsn xs) rising)

-- what is pending for an open transaction is what undo finds of it
pub pending_is_lost : (rs : List Record) → IsRising (map own_lsn rs) → (t : ℕ) → is_open rs t ≡ true
    → pending rs t ≡ changes_of t (filter_map (lost_by rs) rs)
pending_is_lost rs rise t still =
    let rising = rising_filter (λ r. eqb (txn_of r) t) rs rise in
    found (pending rs t) [] (records_of rs t) refl rising ∙ sym (its_lost rs t still rs)
