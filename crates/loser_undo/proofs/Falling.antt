-- The changes that undo takes back, in their order.
use Rattle.std.proofs.Common.{◌≡◌, ℕ, ◌-◌, ◌<◌, Bool, true, false, cond, eq-eqb, ne_eqb, List, [], ◌∷◌, ◌++◌, length}
use Rattle.std.proofs.Common.{map, sym, refl, ap, subst, subst₂, ◌∙◌, inl, inr, arith}
use Rattle.std.specs.Prelude.{Some, None, reverse}
use Rattle.std.specs.List.{All, AllByRecursion, AllPairs, cons_option, filter, filter_map}
use Rattle.std.proofs.lemmas.Bool.{cases_eq}
use Rattle.std.proofs.lemmas.List.{get_or-reverse, length-reverse}
use Rattle.std.proofs.lemmas.List.Elements.{All-append, All-cons, All-head, All-nil, All-tail}
use Rattle.std.proofs.lemmas.List.Kept.{AllPairs-cons}
use mathlib.Core.List.{reverse-cons}
use Rattle.log_records.specs.declared.record.Record.{Record}
use Rattle.log_records.specs.declared.record.Record.TheVariants.{Update}
use Rattle.log_records.specs.Log.{IsLog, Log}
use Rattle.log_records.specs.Record.{own_lsn}
use Rattle.log_rules.specs.Transactions.{is_open, pending}
use Rattle.loser_undo.specs.Undo.{LostChange, is_lost, lost_by, lost_changes}
use Rattle.loser_undo.proofs.Lost.{changes_of, of_txn, pending_is_lost}
use Rattle.loser_undo.proofs.Phases.{changes_of_other, changes_of_own, lost_open}
use Rattle.loser_undo.proofs.Rising.{IsRising, lsns_rise}

-- ---- those of one transaction

changes_of_reverse : (t : ℕ) (ls : List LostChange) → changes_of t (reverse ls) ≡ reverse (changes_of t ls)
changes_of_reverse t [] = refl
changes_of_reverse t (l ∷ ls) =
    let one = λ (b : Bool). map (λ (k : LostChange). k.change)
    (cond b (l ∷ filter (of_txn t) ls) (filter (of_txn t) ls)) in
    ap (changes_of t) (reverse-cons l ls)
    ∙ elim (cases_eq l.txn t) [
      | inl same ↦
          changes_of_own t (reverse ls) l same ∙ ap (λ ps. ps ++ l.change ∷ []) (changes_of_reverse t ls)
          ∙ sym (reverse-cons l.change (changes_of t ls))
          ∙ ap reverse (sym (ap one (eq-eqb l.txn t same)))
      | inr other ↦
          changes_of_other t (reverse ls) l other ∙ changes_of_reverse t ls
          ∙ ap reverse (sym (ap one (ne_eqb l.txn t other)))
    ]

pub lost_of_each : (log : Log) (t : ℕ) → IsLog log → is_open log.records t ≡ true
    → changes_of t (lost_changes log.records) ≡ reverse (pending log.records t)
lost_of_each log t valid still =
    changes_of_reverse t (filter_map (lost_by log.records) log.records)
    ∙ ap reverse (sym (pending_is_lost log.records (lsns_rise log valid) t still))

-- ---- each is one of an open transaction

pub all_reverse : (P : LostChange → Type 0) (ls : List LostChange) → All P ls → All P (reverse ls)
all_reverse P [] all = all
all_reverse P (l ∷ ls) all =
    let one = All-cons P l [] (All-head P l ls all) (All-nil P) in
    let both = All-append P (reverse ls) (l ∷ []) (all_reverse P ls (All-tail P l ls all)) one in
    subst (All P) (sym (reverse-cons l ls)) both

lost_open_ones : (rs xs : List Record) → All (λ l. is_open rs l.txn ≡ true) (filter_map (lost_by rs) xs)
lost_open_ones rs [] = All-nil (λ (l : LostChange). is_open rs l.txn ≡ true)
lost_open_ones rs (Update lsn t prev page slot change ∷ xs) =
    let l : LostChange = record {
      txn = t;
      change = record { lsn = lsn; prev = prev; page = page; slot = slot; change = change };
    } in
    first l (is_lost rs t lsn) (λ lost. (lost_open rs t lsn lost).0) (lost_open_ones rs xs)
  where
    first : (l : LostChange) (b : Bool) → (b ≡ true → is_open rs l.txn ≡ true)
        → All (λ l. is_open rs l.txn ≡ true) (filter_map (lost_by rs) xs)
        → All (λ l. is_open rs l.txn ≡ true) (cons_option (cond b (Some l) None) (filter_map (lost_by rs) xs))
    first l true live rest =
        All-cons (λ (k : LostChange). is_open rs k.txn ≡ true) l (filter_map (lost_by rs) xs) (live refl) rest
    first l false live rest = rest
lost_open_ones rs (r ∷ xs) = lost_open_ones rs xs

pub lost_of_open : (rs : List Record) → All (λ l. is_open rs l.txn ≡ true) (lost_changes rs)
lost_of_open rs =
    all_reverse (λ l. is_open rs l.txn ≡ true) (filter_map (lost_by rs) rs) (lost_open_ones rs rs)

-- ---- their LSNs

-- what holds of the LSNs of records holds of those of their lost changes
pub lost_lsns : (P : ℕ → Type 0) (rs xs : List Record) → AllByRecursion P (map own_lsn xs)
    → All (λ l. P l.change.lsn) (filter_map (lost_by rs) xs)
lost_lsns P rs [] all = All-nil (λ (l : LostChange). P l.change.lsn)
lost_lsns P rs (Update lsn t prev page slot change ∷ xs) all =
    let l : LostChange = record {
      txn = t;
      change = record { lsn = lsn; prev = prev; page = page; slot = slot; change = change };
    } in
    first l (is_lost rs t lsn) all.0 (lost_lsns P rs xs all.1)
  where
    first : (l : LostChange) (b : Bool) → P l.change.lsn → All (λ l. P l.change.lsn) (filter_map (lost_by rs) xs)
        → All (λ l. P l.change.lsn) (cons_option (cond b (Some l) None) (filter_map (lost_by rs) xs))
    first l true here rest =
        All-cons (λ (k : LostChange). P k.change.lsn) l (filter_map (lost_by rs) xs) here rest
    first l false here rest = rest
lost_lsns P rs (r ∷ xs) all = lost_lsns P rs xs all.1

abbrev Below : LostChange → LostChange → Type 0
Below k l = k.change.lsn < l.change.lsn

lost_rise : (rs xs : List Record) → IsRising (map own_lsn xs) → AllPairs Below (filter_map (lost_by rs) xs)
lost_rise rs [] rising = λ i j d below within. absurd (omega arith)
lost_rise rs (Update lsn t prev page slot change ∷ xs) rising =
    let l : LostChange = record {
      txn = t;
      change = record { lsn = lsn; prev = prev; page = page; slot = slot; change = change };
    } in
    first l (is_lost rs t lsn) (lost_lsns (λ m. lsn < m) rs xs rising.0) (lost_rise rs xs rising.1)
  where
    first : (l : LostChange) (b : Bool) → All (Below l) (filter_map (lost_by rs) xs)
        → AllPairs Below (filter_map (lost_by rs) xs)
        → AllPairs Below (cons_option (cond b (Some l) None) (filter_map (lost_by rs) xs))
    first l true above rest = AllPairs-cons Below l (filter_map (lost_by rs) xs) above rest
    first l false above rest = rest
lost_rise rs (r ∷ xs) rising = lost_rise rs xs rising.1

pub lost_fall : (rs : List Record) → IsRising (map own_lsn rs)
    → AllPairs (λ x y. y.change.lsn < x.change.lsn) (lost_changes rs)
lost_fall rs rising i j d below within =
    let ls = filter_map (lost_by rs) rs in
    let n = length ls in
    let long = length-reverse ls in
    let pairs = lost_rise rs rs rising in
    subst₂ Below (sym (get_or-reverse ls j d (omega (arith, long)))) (sym (get_or-reverse ls i d (omega (arith, long))))
    (pairs (n - 1 - j) (n - 1 - i) d (omega (arith, long)) (omega (arith, long)))
