-- What the table of a log says, in the log's words.
use Rattle.std.proofs.Common.{◌≡◌, ℕ, ◌≤◌, ◌∷◌, [], Bool, true, false, cond, List, length, refl, sym, ap, subst, ◌∙◌}
use Rattle.std.proofs.Common.{arith, min, inl, inr}
use Rattle.std.specs.Prelude.{Option, Some, None, if◌then◌else◌, IfSome, filter, nat_le}
use Rattle.std.specs.Option.{option_and_then, option_map, option_map_or}
use Rattle.log_records.specs.declared.record.Record.{Record}
use Rattle.log_records.specs.declared.record.Record.TheVariants.{Begin, Update, Comp, Commit, Abort, End, BeginChkpt}
use Rattle.log_records.specs.declared.record.Record.TheVariants.{ChkptPages, ChkptTxns, EndChkpt, Extend}
use Rattle.log_rules.specs.Table.{TxnEntry, Table, entry_in, entry_of, table_of}
use Rattle.log_rules.specs.Transactions.{begun, is_open, last_of, pending, open_in}
use Rattle.txn_table.specs.TxnState.{state_of, next_in}
use Rattle.log_rules.proofs.Public.{entry_in-table_of}
use Rattle.txn_table.specs.TxnTable.{IsTableOf, next_open}
use Rattle.std.specs.List.{All}
use Rattle.std.proofs.Math.Nat.{min-eq_left, min-eq_right}
use Rattle.std.proofs.lemmas.Bool.{cases_lt}
use Rattle.std.proofs.lemmas.List.{map-id}
use Rattle.std.proofs.lemmas.List.Elements.{All-filter, All-head, All-tail, filter_passes}
use Rattle.std.proofs.lemmas.Simd.{map-map}
use Rattle.log_records.specs.Least.{least}

-- no more transactions began than there are records
pub begun_few : (rs : List Record) → length (begun rs) ≤ length rs
begun_few [] = omega arith
begun_few (Begin lsn txn ∷ rs) = let few = begun_few rs in omega arith
begun_few (Update lsn txn prev page slot change ∷ rs) = let few = begun_few rs in omega arith
begun_few (Comp lsn txn prev undo_next page slot change ∷ rs) = let few = begun_few rs in omega arith
begun_few (Commit lsn txn prev ∷ rs) = let few = begun_few rs in omega arith
begun_few (Abort lsn txn prev ∷ rs) = let few = begun_few rs in omega arith
begun_few (End lsn txn prev ∷ rs) = let few = begun_few rs in omega arith
begun_few (BeginChkpt lsn ∷ rs) = let few = begun_few rs in omega arith
begun_few (ChkptPages lsn begin pages ∷ rs) = let few = begun_few rs in omega arith
begun_few (ChkptTxns lsn begin txn state last undo ∷ rs) = let few = begun_few rs in omega arith
begun_few (EndChkpt lsn begin redo ∷ rs) = let few = begun_few rs in omega arith
begun_few (Extend lsn pages ∷ rs) = let few = begun_few rs in omega arith

-- the entry of an open transaction
pub entry_is : (rs : List Record) (table : Table) (t : ℕ) → IsTableOf rs table → is_open rs t ≡ true
    → entry_in table t ≡ Some (entry_of rs t)
entry_is rs table t of still =
    ap (λ (x : Table). entry_in x t) of.made ∙ entry_in-table_of rs t
    ∙ ap (λ b. cond b (Some (entry_of rs t)) None) still

pub state_is : (rs : List Record) (table : Table) (t : ℕ) → IsTableOf rs table
    → option_map state_of (entry_in table t) ≡ (if is_open rs t then Some (state_of (entry_of rs t)) else None)
state_is rs table t of =
    ap (λ (x : Table). option_map state_of (entry_in x t)) of.made ∙ ap (option_map state_of) (entry_in-table_of rs t)
    ∙ choose (is_open rs t)
  where
    choose : (b : Bool) → option_map state_of (cond b (Some (entry_of rs t)) None)
        ≡ cond b (Some (state_of (entry_of rs t))) None
    choose true = refl
    choose false = refl

pub last_pending_is : (rs : List Record) (table : Table) (t : ℕ) → IsTableOf rs table
    → option_and_then (λ (e : TxnEntry). last_of e.pending) (entry_in table t)
    ≡ (if is_open rs t then last_of (pending rs t) else None)
last_pending_is rs table t of =
    ap (λ (x : Table). option_and_then (λ (e : TxnEntry). last_of e.pending) (entry_in x t)) of.made
    ∙ ap (option_and_then (λ (e : TxnEntry). last_of e.pending)) (entry_in-table_of rs t) ∙ choose (is_open rs t)
  where
    choose : (b : Bool) → option_and_then (λ (e : TxnEntry). last_of e.pending) (cond b (Some (entry_of rs t)) None)
        ≡ cond b (last_of (pending rs t)) None
    choose true = refl
    choose false = refl

-- ---- the next open transaction

-- what holds of both numbers holds of the lesser one
of_lesser : (P : ℕ → Type 0) (n m : ℕ) → P n → P m → P (min n m)
of_lesser P n m a b = elim (cases_lt n m) [
  | inl less ↦ let le : n ≤ m = omega arith in subst P (sym (min-eq_left le)) a
  | inr le ↦ subst P (sym (min-eq_right le)) b
]

-- what holds of each number holds of the least
of_least : (P : ℕ → Type 0) (ns : List ℕ) → All P ns → IfSome (least ns) P
of_least P [] all = tt
of_least P (n ∷ ns) all = at (least ns) (of_least P ns (All-tail P n ns all))
  where
    at : (o : Option ℕ) → IfSome o P → P (option_map_or (min n) o n)
    at None h = All-head P n ns all
    at (Some m) h = of_lesser P n m (All-head P n ns all) h

next_in-table_of : (rs : List Record) (from : ℕ) → next_in (table_of rs) from ≡ next_open rs from
next_in-table_of rs from =
    ap (λ (ns : List ℕ). least (filter (λ n. nat_le from n) ns))
    (map-map (λ (e : TxnEntry). e.txn) (entry_of rs) (open_in rs) ∙ map-id (open_in rs))

next_is_open : (rs : List Record) (from : ℕ) → IfSome (next_open rs from) (λ t. is_open rs t ≡ true)
next_is_open rs from =
    of_least (λ t. is_open rs t ≡ true) (filter (λ t. nat_le from t) (open_in rs))
    (All-filter (λ t. nat_le from t) (λ t. is_open rs t ≡ true) (open_in rs) (filter_passes (is_open rs) (begun rs)))

pub next_from_is : (rs : List Record) (table : Table) (from : ℕ) → IsTableOf rs table
    → option_map state_of (option_and_then (entry_in table) (next_in table from))
    ≡ option_map (λ t. state_of (entry_of rs t)) (next_open rs from)
next_from_is rs table from of =
    ap (λ (x : Table). option_map state_of (option_and_then (entry_in x) (next_in x from))) of.made
    ∙ ap (λ o. option_map state_of (option_and_then (entry_in (table_of rs)) o)) (next_in-table_of rs from)
    ∙ at (next_open rs from) (next_is_open rs from)
  where
    at : (o : Option ℕ) → IfSome o (λ t. is_open rs t ≡ true)
        → option_map state_of (option_and_then (entry_in (table_of rs)) o)
        ≡ option_map (λ t. state_of (entry_of rs t)) o
    at None h = refl
    at (Some t) h = ap (option_map state_of) (entry_in-table_of rs t ∙ ap (λ b. cond b (Some (entry_of rs t)) None) h)
