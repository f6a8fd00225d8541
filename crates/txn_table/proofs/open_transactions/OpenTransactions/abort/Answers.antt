use Rattle.std.proofs.Common.{◌∙◌, ap, refl, sym}
use Rattle.std.proofs.lemmas.Bool.{false≢true}
use Rattle.txn_table.specs.OpenList.{entries_in}
use Rattle.log_rules.specs.Table.{TxnEntry, IsActiveEntry, Table, entry_after, with_entry}
use Rattle.log_records.specs.declared.record.Record.TheVariants.{Abort}
use Rattle.txn_table.proofs.Stored.{keeps-alone, nobody-here, said-here, says-here, in_rows-put, tracks-row}
use Rattle.txn_table.proofs.Stored.{view-changed, view-stays}
use Rattle.txn_table.proofs.Viewed.{table_is}
use Rattle.txn_table.proofs.open_transactions.OpenTransactions.abort.Goals as goal

pub returns-in_default : goal.returns-in_default
returns-in_default c = (
  nobody-here c.self.inside.begun c.args.txn (entries_in c.self.inside.list) c.args.self.now.table (IsActiveEntry c.args.prev)
      (table_is c.self.view_is) (c.row_of.ensures.none c.in_default.is),
  refl,
)

pub returns-then-not-is_active : goal.returns-then-not-is_active
returns-then-not-is_active c = (
  λ some. false≢true (sym c.if-not-is_active.true ∙ c.is_active.ensures.1
      (said-here c.self.invariant c.in-Some.ensures.found c.index_mut-entry.ensures.value c.args.self.now.table (table_is c.self.view_is)
      (IsActiveEntry c.args.prev) some)),
  ap (λ es. let v : Table = record { begun = c.self.inside.begun; entries = es } in v)
      (view-stays c.self.invariant c.in-Some.ensures.found c.index_mut-entry.ensures.value c.index_mut-entry.result.now
      refl)
      ∙ (table_is c.self.view_is),
)

pub invariant_of-self-2 : goal.invariant_of-self-2
invariant_of-self-2 c =
    let is = c.abort.ensures in
    record {
      in_rows = in_rows-put c.self.invariant c.in-Some.ensures.found c.index_mut-entry.ensures.value c.abort.new.self
          is.same.0;
      tracks = tracks-row c.self.invariant c.in-Some.ensures.found c.index_mut-entry.ensures.value c.abort.new.self
          c.self.inside.claims
          (keeps-alone c.self.invariant c.in-Some.ensures.found c.index_mut-entry.ensures.value c.abort.new.self
          (ap (λ (v : TxnEntry). v.txn) is.entry) is.same.0 is.same.1);
    }

pub returns : goal.returns
returns c = (
  says-here c.self.invariant c.in-Some.ensures.found c.index_mut-entry.ensures.value c.args.self.now.table (table_is c.self.view_is)
      (IsActiveEntry c.args.prev) (c.is_active.ensures.0 c.if-not-is_active.false),
  ap (λ es. let v : Table = record { begun = c.self.inside.begun; entries = es } in v)
      (sym (view-changed c.self.invariant c.in-Some.ensures.found c.index_mut-entry.ensures.value c.abort.new.self
      (λ v. entry_after v (Abort c.args.lsn c.args.txn c.args.prev)) c.abort.ensures.entry))
      ∙ ap (λ (v : Table). with_entry v c.args.txn (Abort c.args.lsn c.args.txn c.args.prev)) (table_is c.self.view_is),
)
