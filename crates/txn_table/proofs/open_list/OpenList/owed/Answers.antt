use Rattle.std.proofs.Common.{◌∙◌, ap, min}
use Rattle.std.specs.List.{sum_by}
use Rattle.txn_table.specs.OpenEntry.{entry_view}
use Rattle.txn_table.specs.OpenList.{entries_in}
use Rattle.log_rules.specs.Table.{owed_by_entry}
use Rattle.txn_table.proofs.RowPlaces.{meets, met-all, owed-more}
use Rattle.txn_table.proofs.open_list.OpenList.owed.Goals as goal

pub loop-row-preserved : goal.loop-row-preserved
loop-row-preserved c =
    let list = c.args.self.now in
    let x = c.index.result.now in
    let here = meets list.order.items c.deref-row-items.result.now list.rows.items list.taken c.loop-row.row-index x
    c.requires c.deref-row-items.ensures.value c.loop-row-test.true c.index.ensures in
    owed-more (entries_in list) c.loop-row.row-index x c.loop-row.owed c.owed.result
    c.saturating_add-owed.result here.0 here.1 c.loop-row.invariant c.owed.ensures c.saturating_add-owed.ensures

pub returns : goal.returns
returns c =
    let list = c.args.self.now in
    c.loop-row.invariant
    ∙ ap (λ xs. min (sum_by (λ e. owed_by_entry (entry_view e)) xs) 18446744073709551615)
    (met-all list.order.items c.deref-row-items.result.now list.rows.items list.taken c.loop-row.row-index
    c.requires c.deref-row-items.ensures.value c.loop-row-test.false)
