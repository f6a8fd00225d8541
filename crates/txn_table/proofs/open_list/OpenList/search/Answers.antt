use Rattle.std.proofs.Common.{◌∙◌, ap, sym, eqb}
use Rattle.std.specs.List.{find}
use Rattle.txn_table.specs.declared.open_entry.OpenEntry.{OpenEntry}
use Rattle.txn_table.specs.OpenList.{entries_in}
use Rattle.txn_table.proofs.Firsts.{find-more}
use Rattle.txn_table.proofs.RowPlaces.{meets, met-all}
use Rattle.txn_table.proofs.open_list.OpenList.search.Goals as goal

pub loop-row-preserved : goal.loop-row-preserved
loop-row-preserved c =
    let list = c.args.self.now in
    let x = c.index.result.now in
    let here = meets list.order.items c.deref-row-items.result.now list.rows.items list.taken c.loop-row.row-index x
    c.requires c.deref-row-items.ensures.value c.loop-row-test.true c.index.ensures in
    find-more (λ e. eqb e.txn c.args.txn) (entries_in list) c.loop-row.row-index x here.0 c.loop-row.invariant
    (ap (λ (e : OpenEntry). eqb e.txn c.args.txn) here.1 ∙ sym c.eq.ensures ∙ c.if-eq.false)

pub returns-clause-none : goal.returns-clause-none
returns-clause-none c = λ none.
    let list = c.args.self.now in
    ap (λ xs. find (λ e. eqb e.txn c.args.txn) xs)
    (sym (met-all list.order.items c.deref-row-items.result.now list.rows.items list.taken c.loop-row.row-index
    c.requires c.deref-row-items.ensures.value c.loop-row-test.false))
    ∙ c.loop-row.invariant
