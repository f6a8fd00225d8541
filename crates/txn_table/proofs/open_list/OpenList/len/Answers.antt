use Rattle.std.proofs.Common.{◌∙◌, sym}
use Rattle.txn_table.proofs.RowPlaces.{length-entries}
use Rattle.txn_table.proofs.open_list.OpenList.len.Goals as goal

pub returns : goal.returns
returns c =
    let list = c.args.self.now in
    c.len.ensures ∙ list.order.ok.0 ∙ sym (length-entries list.order.items list.rows.items c.requires.there)
