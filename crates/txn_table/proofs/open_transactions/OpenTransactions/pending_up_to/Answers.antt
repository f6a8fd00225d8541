use Rattle.std.proofs.Common.{◌∙◌, ap, sym, subst}
use Rattle.std.specs.Prelude.{IfSome}
use Rattle.txn_table.specs.CountUpTo.{IsCountUpTo}
use Rattle.txn_table.specs.OpenList.{entries_in}
use Rattle.log_rules.specs.Table.{TxnEntry, Table, entry_in}
use Rattle.txn_table.proofs.Stored.{at-row, missing-txn}
use Rattle.txn_table.proofs.Viewed.{table_is}
use Rattle.txn_table.proofs.open_transactions.OpenTransactions.pending_up_to.Goals as goal

pub returns-in-Some : goal.returns-in-Some
returns-in-Some c =
    let at = at-row c.self.invariant c.in-Some.ensures.found c.index.ensures in
    subst (λ o. IfSome o (λ (e : TxnEntry). IsCountUpTo e.pending c.args.lsn c.pending_up_to.result))
    (sym (ap (λ (v : Table). entry_in v c.args.txn) (sym (table_is c.self.view_is)) ∙ at.found)) c.pending_up_to.ensures

pub returns-in-None : goal.returns-in-None
returns-in-None c =
    subst (λ o. IfSome o (λ (e : TxnEntry). IsCountUpTo e.pending c.args.lsn 0))
    (sym (ap (λ (v : Table). entry_in v c.args.txn) (sym (table_is c.self.view_is))
    ∙ missing-txn c.args.txn (entries_in c.self.inside.list) (c.row_of.ensures.none c.in-None.is))) tt
