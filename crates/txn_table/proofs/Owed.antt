-- How many records the open transactions of a log may still need, record by record.
use Rattle.std.proofs.Common.{ℕ, ◌≡◌, ◌+◌, ◌*◌, ◌≤◌, ◌++◌, List, [], ◌∷◌, true, length, take, slice_index_or}
use Rattle.std.proofs.Common.{suc, zero, arith, refl, sym, ap, subst, ◌∙◌}
use Rattle.std.proofs.lemmas.List.{length_push, take_all}
use Rattle.std.proofs.Math.Seq.{take-suc}
use Rattle.log_records.specs.declared.record.Record.{Record}
use Rattle.log_records.specs.declared.record.Record.TheVariants.{Begin, Update, Comp, Commit, Abort, End, BeginChkpt}
use Rattle.log_records.specs.declared.record.Record.TheVariants.{ChkptPages, ChkptTxns, EndChkpt, Extend}
use Rattle.log_rules.specs.Linked.{IsLinked, MayFollow}
use Rattle.std.specs.Prelude.{Option, Some, None, if◌then◌else◌}
use Rattle.std.specs.Option.{option_map}
use Rattle.txn_table.specs.declared.txn_state.TxnState.{TxnState}
use Rattle.txn_table.specs.TxnState.{state_of}
use Rattle.txn_table.proofs.Tables.{state_is}
use Rattle.log_rules.specs.Table.{Table, entry_in, entry_of, noted, owed_in}
use Rattle.log_rules.specs.Transactions.{is_open, owed, owed_by}
use Rattle.log_rules.proofs.Public.{owed_in-table_of}
use Rattle.log_rules.proofs.Public.{table_of_push}
use Rattle.log_rules.proofs.Public.{linked-take}
use Rattle.log_rules.proofs.Public.{claimed, claimed_abort, claimed_aside, claimed_begin, claimed_comp, claimed_push, claimed_update, needs, owed_push_last}
use Rattle.txn_table.specs.TxnTable.{IsOwed, IsTableOf}

-- what the table says is owed is what its log says
pub owed_of_table : (rs : List Record) (table : Table) → IsTableOf rs table → owed rs ≡ owed_in table
owed_of_table rs table of = sym (owed_in-table_of rs) ∙ ap owed_in (sym of.made)

-- what is owed after a record, by what was owed before it
abbrev pub OwedStep : List Record → ℕ → Record → Type 0
OwedStep rs after (Begin lsn t) = after ≡ owed rs + 2
OwedStep rs after (Update lsn t prev page slot change) = after ≡ owed rs + 1
OwedStep rs after (Comp lsn t prev undo_next page slot change) = after + 1 ≡ owed rs
OwedStep rs after (Abort lsn t prev) = after + 1 ≡ owed rs
OwedStep rs after (Commit lsn t prev) = (is_open rs t ≡ true) × (after + owed_by rs t ≡ owed rs)
OwedStep rs after (End lsn t prev) = (is_open rs t ≡ true) × (after + owed_by rs t ≡ owed rs)
OwedStep rs after of_checkpoint = after ≡ owed rs

pub owed_step : (rs : List Record) (r : Record) → IsLinked rs → MayFollow rs r
    → OwedStep rs (owed (rs ++ r ∷ [])) r
owed_step rs (Begin lsn t) linked may =
    let r = Begin lsn t in
    omega (arith, claimed_begin rs lsn t linked may, length_push rs r)
owed_step rs (Update lsn t prev page slot change) linked may =
    let r = Update lsn t prev page slot change in
    omega (arith, claimed_update rs lsn t prev page slot change linked may, length_push rs r)
owed_step rs (Comp lsn t prev undo_next page slot change) linked may =
    let r = Comp lsn t prev undo_next page slot change in
    omega (arith, claimed_comp rs lsn t prev undo_next page slot change linked may, length_push rs r)
owed_step rs (Abort lsn t prev) linked may =
    let r = Abort lsn t prev in
    omega (arith, claimed_abort rs lsn t prev linked may, length_push rs r)
owed_step rs (Commit lsn t prev) linked may =
    let still = may.goes_on.still_open in
    (still, owed_push_last rs (Commit lsn t prev) linked refl refl still)
owed_step rs (End lsn t prev) linked may =
    let still = may.0.still_open in
    (still, owed_push_last rs (End lsn t prev) linked refl refl still)
owed_step rs (BeginChkpt lsn) linked may =
    let r = BeginChkpt lsn in
    omega (arith, claimed_aside rs r linked refl refl refl, length_push rs r)
owed_step rs (ChkptPages lsn begin pages) linked may =
    let r = ChkptPages lsn begin pages in
    omega (arith, claimed_aside rs r linked refl refl refl, length_push rs r)
owed_step rs (ChkptTxns lsn begin t state last undo) linked may =
    let r = ChkptTxns lsn begin t state last undo in
    omega (arith, claimed_aside rs r linked refl refl refl, length_push rs r)
owed_step rs (EndChkpt lsn begin redo) linked may =
    let r = EndChkpt lsn begin redo in
    omega (arith, claimed_aside rs r linked refl refl refl, length_push rs r)
owed_step rs (Extend lsn pages) linked may =
    let r = Extend lsn pages in
    omega (arith, claimed_aside rs r linked refl refl refl, length_push rs r)

needs_few : (r : Record) → needs r ≤ 3
needs_few (Begin lsn t) = omega arith
needs_few (Update lsn t prev page slot change) = omega arith
needs_few (Comp lsn t prev undo_next page slot change) = omega arith
needs_few (Commit lsn t prev) = omega arith
needs_few (Abort lsn t prev) = omega arith
needs_few (End lsn t prev) = omega arith
needs_few (BeginChkpt lsn) = omega arith
needs_few (ChkptPages lsn begin pages) = omega arith
needs_few (ChkptTxns lsn begin t state last undo) = omega arith
needs_few (EndChkpt lsn begin redo) = omega arith
needs_few (Extend lsn pages) = omega arith

claimed_few : (rs : List Record) → IsLinked rs → (n : ℕ) → n ≤ length rs → claimed (take n rs) ≤ 3 * n
claimed_few rs linked zero within = omega arith
claimed_few rs linked (suc n) within =
    let r = slice_index_or rs n (BeginChkpt 0) in
    let before = claimed_few rs linked n (omega arith) in
    let step = claimed_push (take n rs) r (linked-take rs linked n) (linked n (BeginChkpt 0) (omega arith)) in
    let few = needs_few r in
    rw (take-suc rs n (BeginChkpt 0) (omega arith)) (omega arith)

-- no more than three for each record
pub owed_few : (rs : List Record) → IsLinked rs → owed rs ≤ 3 * length rs
owed_few rs linked =
    let all = claimed_few rs linked (length rs) (omega arith) in
    let whole = take_all (length rs) rs (omega arith) in
    let few : claimed rs ≤ 3 * length rs = subst (λ (xs : List Record). claimed xs ≤ 3 * length rs) whole all in
    omega arith

-- where the table is that of a log, so many are owed
pub count_is : (held now : Table) (count : ℕ) (rs : List Record) → held ≡ now → IsOwed held count
    → IsTableOf rs now → count ≡ owed rs
count_is held now count rs same kept of =
    let few = owed_few rs of.linked in
    let short = of.few in
    let is : owed rs ≡ owed_in held = owed_of_table rs now of ∙ ap owed_in (sym same) in
    kept (omega (arith, is)) ∙ sym is

-- ---- one step of a table that keeps its sum

pub record Stepped (rs : List Record) (count after : ℕ) (r : Record) : Type 0 where
  pub before : count ≡ owed rs
  pub few : owed rs ≤ 3145728
  pub step : OwedStep rs after r

pub table_step : (held now : Table) (count : ℕ) (rs : List Record) (next r : Record) → held ≡ now
    → IsOwed held count → IsTableOf rs now → MayFollow rs next → next ≡ r
    → Stepped rs count (owed (rs ++ next ∷ [])) r
table_step held now count rs next r same kept of may is =
    let few = owed_few rs of.linked in
    let short = of.few in
    record {
      before = count_is held now count rs same kept of;
      few = omega arith;
      step = subst (OwedStep rs (owed (rs ++ next ∷ []))) is (owed_step rs next of.linked may);
    }

-- what the next record makes of the table is owed what was found
pub owed_next : (old new : Table) (count : ℕ) (rs : List Record) (next : Record) → IsTableOf rs old
    → MayFollow rs next → count ≡ owed (rs ++ next ∷ []) → new ≡ noted old next → IsOwed new count
owed_next old new count rs next of may is made = λ fits.
    is ∙ sym (owed_in-table_of (rs ++ next ∷ []))
    ∙ ap owed_in (table_of_push rs next of.linked may
    ∙ ap (λ (t : Table). noted t next) (sym of.made) ∙ sym made)

-- ---- what one transaction is owed, by its state in a table

pub state_owed : (held now : Table) (rs : List Record) (t : ℕ) (found : Option TxnState) (state : TxnState)
    → held ≡ now → IsTableOf rs now → is_open rs t ≡ true → found ≡ option_map state_of (entry_in held t)
    → found ≡ Some state → owed_by rs t ≡ state.pending + (if state.rolling then 1 else 2)
state_owed held now rs t found state same of still found-is is =
    let own : TxnState = state_of (entry_of rs t) in
    let some : Some state ≡ Some own =
    sym is ∙ found-is ∙ state_is rs held t (subst (λ (x : Table). IsTableOf rs x) (sym same) of)
    ∙ ap (λ b. if b then Some own else None) still in
    let equal : state ≡ own = cc in
    ap (λ (s : TxnState). s.pending + (if s.rolling then 1 else 2)) (sym equal)

pub state_is_there : (held now : Table) (rs : List Record) (t : ℕ) (found : Option TxnState) (n : ℕ)
    → held ≡ now → IsTableOf rs now → is_open rs t ≡ true → found ≡ option_map state_of (entry_in held t)
    → found ≡ None → 0 ≡ n
state_is_there held now rs t found n same of still found-is is =
    let own : TxnState = state_of (entry_of rs t) in
    let clash : None ≡ Some own =
    sym is ∙ found-is ∙ state_is rs held t (subst (λ (x : Table). IsTableOf rs x) (sym same) of)
    ∙ ap (λ b. if b then Some own else None) still in
    cc
