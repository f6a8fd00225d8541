-- A record of undo, and what it leaves.
use Rattle.std.proofs.Common.{◌≡◌, ◌≢◌, ℕ, ◌-◌, ◌<◌, true, false, eqb, List, [], ◌∷◌, ◌++◌}
use Rattle.std.proofs.Common.{length, map, refl, ap, ◌∙◌, arith, eq-eqb, ne_eqb}
use Rattle.std.specs.Prelude.{Some}
use Rattle.std.specs.List.{filter, list_any}
use Rattle.std.proofs.lemmas.Bool.{and_parts}
use Rattle.std.proofs.lemmas.List.{get_or_push, length_push, map_push, take_at}
use Rattle.std.proofs.lemmas.List.Kept.{IsStrictlyIncreasing-filter}
use Rattle.std.proofs.lemmas.Option.{slice_get-get_or}
use Rattle.std.proofs.Math.Bool.{and-false}
use Rattle.log_records.specs.declared.record.Record.{Record}
use Rattle.log_rules.specs.declared.pending_change.PendingChange.{PendingChange}
use Rattle.log_rules.specs.Linked.{IsLinked, MayFollow}
use Rattle.log_rules.specs.Transactions.{is_open, last_of, open_in, pending, pending_from, txn_of}
use Rattle.log_rules.specs.Transactions.{without_last}
use Rattle.log_rules.proofs.Public.{open_in-IsStrictlyIncreasing}
use Rattle.log_rules.proofs.Public.{filter_push_in, filter_push_out}
use Rattle.log_rules.proofs.Public.{is_open_push_own}
use Rattle.log_rules.proofs.Public.{records_of_push_other}
use Rattle.loser_undo.specs.Undo.{LostChange, comp_of, end_of, is_lost, is_undone}
use Rattle.loser_undo.specs.Undo.{spent, with_end}
use Rattle.loser_undo.proofs.Lost.{changes_of, of_txn}
use Rattle.loser_undo.proofs.Rising.{IsRising, rising_from_increasing}

-- ---- a record of undo may follow

pub end_follows : (rs : List Record) (t : ℕ) → is_open rs t ≡ true → pending rs t ≡ [] → MayFollow rs (end_of rs t)
end_follows rs t still none = (record { still_open = still; chained = refl }, none)

pub comp_follows : (rs : List Record) (l : LostChange) → is_open rs l.txn ≡ true
    → last_of (pending rs l.txn) ≡ Some l.change → MayFollow rs (comp_of rs l)
comp_follows rs l still last = (
  record { still_open = still; chained = refl },
  rw last (record { next = refl; same_page = refl; same_slot = refl; undoes = refl }),
)

pub last_of_push : (ps : List PendingChange) (p : PendingChange) → last_of (ps ++ p ∷ []) ≡ Some p
last_of_push ps p =
    let i = length (ps ++ p ∷ []) - 1 in
    let long = length_push ps p in
    let within : i < length (ps ++ p ∷ []) = omega (arith, long) in
    let last : length ps ≡ i = omega (arith, long) in
    slice_get-get_or (ps ++ p ∷ []) i p within ∙ ap Some (get_or_push ps p p i last)

pub without_last_push : (ps : List PendingChange) (p : PendingChange) → without_last (ps ++ p ∷ []) ≡ ps
without_last_push ps p = take_at ps (p ∷ []) _ (omega (arith, length_push ps p))

-- what a record of another transaction leaves
pub pending_other : (rs : List Record) (r : Record) (t : ℕ) → txn_of r ≢ t → pending (rs ++ r ∷ []) t ≡ pending rs t
pending_other rs r t other = ap (pending_from []) (records_of_push_other rs r t other)

pub closed_by_end : (rs : List Record) (n t : ℕ) → n ≡ t → is_open (with_end rs n) t ≡ false
closed_by_end rs n t same = is_open_push_own rs (end_of rs n) t refl same ∙ and-false (is_open rs t)

-- ---- lost changes with one more

pub changes_of_own : (t : ℕ) (ks : List LostChange) (l : LostChange) → l.txn ≡ t
    → changes_of t (ks ++ l ∷ []) ≡ changes_of t ks ++ l.change ∷ []
changes_of_own t ks l same =
    ap (map (λ (k : LostChange). k.change)) (filter_push_in (of_txn t) ks l (eq-eqb l.txn t same))
    ∙ map_push (λ (k : LostChange). k.change) (filter (of_txn t) ks) l

pub changes_of_other : (t : ℕ) (ks : List LostChange) (l : LostChange) → l.txn ≢ t
    → changes_of t (ks ++ l ∷ []) ≡ changes_of t ks
changes_of_other t ks l other =
    ap (map (λ (k : LostChange). k.change)) (filter_push_out (of_txn t) ks l (ne_eqb l.txn t other))

pub no_length : (ps : List PendingChange) → length ps ≡ 0 → ps ≡ []
no_length [] none = refl
no_length (p ∷ ps) none = absurd (omega (arith, none))

pub rising_open : (rs : List Record) → IsLinked rs → IsRising (open_in rs)
rising_open rs linked = rising_from_increasing (open_in rs) (open_in-IsStrictlyIncreasing rs linked)

pub rising_spent : (rs : List Record) → IsLinked rs → IsRising (spent rs)
rising_spent rs linked =
    rising_from_increasing (spent rs)
    (IsStrictlyIncreasing-filter (is_undone rs) (open_in rs) (open_in-IsStrictlyIncreasing rs linked))

-- a lost change is one of an open transaction with something pending
pub lost_open : (rs : List Record) (t lsn : ℕ) → is_lost rs t lsn ≡ true
    → (is_open rs t ≡ true) × (is_undone rs t ≡ false)
lost_open rs t lsn lost =
    let parts = and_parts (is_open rs t) (list_any (λ p. eqb p.lsn lsn) (pending rs t)) lost in
    (parts.0, some (pending rs t) parts.1)
  where
    some : (ps : List PendingChange) → list_any (λ p. eqb p.lsn lsn) ps ≡ true → eqb (length ps) 0 ≡ false
    some [] has = cc
    some (p ∷ ps) has = ne_eqb (length (p ∷ ps)) 0 (omega arith)
