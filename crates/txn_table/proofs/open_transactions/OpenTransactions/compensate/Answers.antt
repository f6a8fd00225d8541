use Rattle.std.proofs.Common.{◌∙◌, ap, refl, sym}
use Rattle.std.proofs.lemmas.Bool.{false≢true}
use Rattle.txn_table.specs.OpenList.{entries_in}
use Rattle.log_rules.specs.Table.{IsChained, Table, entry_after, with_entry}
use Rattle.std.specs.Option.{IsSomeAnd}
use Rattle.log_rules.specs.Linked.{Compensates}
use Rattle.log_rules.specs.Transactions.{last_of}
use Rattle.log_records.specs.declared.record.Record.TheVariants.{Comp}
use Rattle.txn_table.proofs.Stored.{at-row, nobody-here, said-here, says-here, in_rows-put, tracks-row, view-changed}
use Rattle.txn_table.proofs.Stored.{view-stays}
use Rattle.txn_table.proofs.Tracked.{held-at}
use Rattle.txn_table.proofs.Viewed.{table_is}
use Rattle.txn_table.proofs.open_transactions.OpenTransactions.compensate.Goals as goal

pub returns-in_default : goal.returns-in_default
returns-in_default c = (
  nobody-here c.self.inside.begun c.args.txn (entries_in c.self.inside.list) c.args.self.now.table
      (λ e. IsChained c.args.prev e
      × IsSomeAnd (last_of e.pending) (Compensates c.args.undo_next c.args.page c.args.slot c.args.change))
      (table_is c.self.view_is) (c.row_of.ensures.none c.in_default.is),
  refl,
)

pub returns-then-not-may_compensate : goal.returns-then-not-may_compensate
returns-then-not-may_compensate c = (
  λ some. false≢true (sym c.if-not-may_compensate.true ∙ c.may_compensate.ensures.1
      (said-here c.self.invariant c.in-Some.ensures.found c.index_mut-entry.ensures.value c.args.self.now.table (table_is c.self.view_is)
      (λ e. IsChained c.args.prev e
      × IsSomeAnd (last_of e.pending) (Compensates c.args.undo_next c.args.page c.args.slot c.args.change)) some)),
  ap (λ es. let v : Table = record { begun = c.self.inside.begun; entries = es } in v)
      (view-stays c.self.invariant c.in-Some.ensures.found c.index_mut-entry.ensures.value c.index_mut-entry.result.now
      refl)
      ∙ (table_is c.self.view_is),
)

pub compensate-requires-clause-held : goal.compensate-requires-clause-held
compensate-requires-clause-held c =
    held-at (at-row c.self.invariant c.in-Some.ensures.found c.index_mut-entry.ensures.value) c.self.invariant.tracks

pub invariant_of-self-2 : goal.invariant_of-self-2
invariant_of-self-2 c =
    let kept = c.compensate.ensures.kept in
    record {
      in_rows = in_rows-put c.self.invariant c.in-Some.ensures.found c.index_mut-entry.ensures.value
          c.compensate.new.self kept.row;
      tracks = tracks-row c.self.invariant c.in-Some.ensures.found c.index_mut-entry.ensures.value
          c.compensate.new.self c.compensate.new.claims kept;
    }

pub returns : goal.returns
returns c = (
  says-here c.self.invariant c.in-Some.ensures.found c.index_mut-entry.ensures.value c.args.self.now.table (table_is c.self.view_is)
      (λ e. IsChained c.args.prev e
      × IsSomeAnd (last_of e.pending) (Compensates c.args.undo_next c.args.page c.args.slot c.args.change))
      (c.may_compensate.ensures.0 c.if-not-may_compensate.false),
  ap (λ es. let v : Table = record { begun = c.self.inside.begun; entries = es } in v)
      (sym (view-changed c.self.invariant c.in-Some.ensures.found c.index_mut-entry.ensures.value c.compensate.new.self
      (λ v. entry_after v
      (Comp c.args.lsn c.args.txn c.args.prev c.args.undo_next c.args.page c.args.slot c.args.change))
      c.compensate.ensures.entry))
      ∙ ap (λ (v : Table). with_entry v c.args.txn
      (Comp c.args.lsn c.args.txn c.args.prev c.args.undo_next c.args.page c.args.slot c.args.change)) (table_is c.self.view_is),
)
