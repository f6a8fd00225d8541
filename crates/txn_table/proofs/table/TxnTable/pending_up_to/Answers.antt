use Rattle.std.proofs.Common.{ap, subst, ◌∙◌}
use Rattle.std.specs.Prelude.{IfSome}
use Rattle.txn_table.specs.CountUpTo.{IsCountUpTo}
use Rattle.log_rules.specs.Table.{TxnEntry, Table, entry_in}
use Rattle.txn_table.proofs.Tables.{entry_is}
use Rattle.txn_table.proofs.Viewed.{table_is}
use Rattle.txn_table.proofs.table.TxnTable.pending_up_to.Goals as goal

pub returns : goal.returns
returns c = λ rs of still.
    subst (λ o. IfSome o (λ (e : TxnEntry). IsCountUpTo e.pending c.args.lsn c.pending_up_to.result))
    (ap (λ (t : Table). entry_in t c.args.txn) (table_is c.self.view_is) ∙ entry_is rs c.args.self.now.table c.args.txn of still)
    c.pending_up_to.ensures
