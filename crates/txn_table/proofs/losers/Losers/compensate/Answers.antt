use Rattle.std.proofs.Common.{◌∙◌, ap, arith, set}
use Rattle.log_rules.specs.Table.{compensated}
use Rattle.txn_table.proofs.Losing.{in-order, in-rows, view-at, view-set}
use Rattle.txn_table.proofs.losers.Losers.compensate.Goals as goal

pub index-requires : goal.index-requires
index-requires c =
    let list = c.self.inside.list in
    omega (
      arith,
      in-order list c.args.self.now c.self.invariant c.self.view_is c.args.place c.requires,
      list.order.ok.0,
    )

pub index_mut-entry-requires : goal.index_mut-entry-requires
index_mut-entry-requires c =
    let list = c.self.inside.list in
    let low = in-rows list c.args.self.now c.self.invariant c.self.view_is c.args.place c.requires c.index.result.now
    c.index.ensures in
    omega (arith, low, list.rows.ok.0)

pub returns : goal.returns
returns c = λ d.
    let list = c.self.inside.list in
    let view = c.args.self.now in
    let x = c.index_mut-entry.result.now in
    view-set list view c.self.invariant c.self.view_is c.args.place c.requires c.index.result.now c.index.ensures
    c.undo_last.new.self
    ∙ ap (set view c.args.place)
    (c.undo_last.ensures.entry
    ∙ ap (compensated c.args.lsn)
    (view-at list view c.self.invariant c.self.view_is c.args.place c.requires c.index.result.now c.index.ensures x d
    c.index_mut-entry.ensures.value))
