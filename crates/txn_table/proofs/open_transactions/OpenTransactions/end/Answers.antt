use Rattle.std.proofs.Common.{◌≡◌, ◌∙◌, [], ap, refl, sym}
use Rattle.std.proofs.lemmas.Bool.{false≢true}
use Rattle.txn_table.specs.OpenList.{entries_in}
use Rattle.log_rules.specs.Table.{IsChained, Table, without_entry}
use Rattle.txn_table.proofs.Stored.{keeps-itself, no-changes, nobody-here, said-here, same-rows, says-here}
use Rattle.txn_table.proofs.Stored.{stored-gone, view-gone}
use Rattle.txn_table.proofs.Viewed.{table_is}
use Rattle.txn_table.proofs.open_transactions.OpenTransactions.end.Goals as goal

pub returns-in_default : goal.returns-in_default
returns-in_default c = λ lsn. (
  nobody-here c.self.inside.begun c.args.txn (entries_in c.self.inside.list) c.args.self.now.table
      (λ e. IsChained c.args.prev e × (e.pending ≡ [])) (table_is c.self.view_is) (c.row_of.ensures.none c.in_default.is),
  refl,
)

pub returns-then-not-may_end : goal.returns-then-not-may_end
returns-then-not-may_end c = λ lsn. (
  λ some. false≢true (sym c.if-not-may_end.true ∙ c.may_end.ensures.1
      (said-here c.self.invariant c.in-Some.ensures.found c.index.ensures c.args.self.now.table (table_is c.self.view_is)
      (λ e. IsChained c.args.prev e × (e.pending ≡ [])) some)),
  refl,
)

pub invariant_of-self : goal.invariant_of-self
invariant_of-self c =
    let sits = c.in-Some.ensures.found in
    let x = c.index.result.now in
    let may = c.may_end.ensures.0 c.if-not-may_end.false in
    stored-gone c.self.invariant sits c.index.ensures x c.remove.new.self
    (c.remove.ensures.order sits.place sits.within sits.row_is)
    (ap (λ v. v.items) c.remove.ensures.rows ∙ same-rows c.self.invariant sits c.index.ensures)
    c.self.inside.claims (keeps-itself c.self.invariant sits c.index.ensures) (no-changes x.pending.items may.1)
    c.remove.ensures.sound

pub returns : goal.returns
returns c = λ lsn.
    let sits = c.in-Some.ensures.found in
    let x = c.index.result.now in (
      says-here c.self.invariant sits c.index.ensures c.args.self.now.table (table_is c.self.view_is)
          (λ e. IsChained c.args.prev e × (e.pending ≡ [])) (c.may_end.ensures.0 c.if-not-may_end.false),
      ap (λ es. let v : Table = record { begun = c.self.inside.begun; entries = es } in v)
          (sym (view-gone c.self.invariant sits c.index.ensures x c.remove.new.self
          (c.remove.ensures.order sits.place sits.within sits.row_is)
          (ap (λ v. v.items) c.remove.ensures.rows ∙ same-rows c.self.invariant sits c.index.ensures) refl refl))
          ∙ ap (λ (v : Table). without_entry v c.args.txn) (table_is c.self.view_is),
    )
