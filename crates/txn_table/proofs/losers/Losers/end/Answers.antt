use Rattle.std.proofs.Common.{◌∙◌, ap, arith, map}
use Rattle.std.specs.List.{remove}
use Rattle.txn_table.specs.OpenEntry.{entry_view}
use Rattle.txn_table.specs.OpenList.{entries_of}
use Rattle.txn_table.proofs.Losing.{at-place, in-order, sits-there, view-remove}
use Rattle.txn_table.proofs.losers.Losers.end.Goals as goal

pub index-row-requires : goal.index-row-requires
index-row-requires c =
    let list = c.self.inside.list in
    omega (
      arith,
      in-order list c.args.self.now c.self.invariant c.self.view_is c.args.place c.requires,
      list.order.ok.0,
    )

pub remove-requires-clause-sits : goal.remove-requires-clause-sits
remove-requires-clause-sits c =
    sits-there c.self.inside.list c.args.self.now c.self.invariant c.self.view_is c.args.place c.requires
    c.index-row.result.now c.index-row.ensures

pub returns : goal.returns
returns c =
    let list = c.self.inside.list in
    let view = c.args.self.now in
    let lt = in-order list view c.self.invariant c.self.view_is c.args.place c.requires in
    let at = at-place list view c.self.invariant c.self.view_is c.args.place c.requires c.index-row.result.now
    c.index-row.ensures in
    ap (λ os. map entry_view (entries_of os c.remove.new.self.rows.items)) (c.remove.ensures.order c.args.place lt at)
    ∙ ap (λ xs. map entry_view (entries_of (remove list.order.items c.args.place) xs))
    (ap (λ v. v.items) c.remove.ensures.rows)
    ∙ view-remove list view c.self.invariant c.self.view_is c.args.place c.requires
