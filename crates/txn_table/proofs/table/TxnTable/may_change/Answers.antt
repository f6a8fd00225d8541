use Rattle.std.proofs.Common.{ap, ◌∙◌}
use Rattle.log_rules.specs.Table.{Table, holder_in}
use Rattle.log_rules.proofs.Public.{holder_in-table_of}
use Rattle.txn_table.proofs.Viewed.{table_is}
use Rattle.txn_table.proofs.table.TxnTable.may_change.Goals as goal

pub returns : goal.returns
returns c = λ rs of.
    let a = c.args in
    c.holder.ensures ∙ ap (λ (t : Table). holder_in t a.page a.slot a.kind a.txn) ((table_is c.self.view_is) ∙ of.made)
    ∙ holder_in-table_of rs a.page a.slot a.kind a.txn
