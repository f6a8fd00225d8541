use Rattle.std.proofs.Common.{◌<◌, Contains, sym, subst}
use Rattle.log_rules.specs.CheckpointTable.{HasOldEntries}
use Rattle.txn_table.specs.OpenList.{entries_in}
use Rattle.log_rules.specs.Table.{TxnEntry, Table}
use Rattle.txn_table.proofs.Viewed.{all-viewed}
use Rattle.txn_table.proofs.Viewed.{table_is}
use Rattle.txn_table.proofs.open_transactions.OpenTransactions.began_before_are_among.Goals as goal

pub returns : goal.returns
returns c =
    let P : TxnEntry → Type 0 = λ e. e.first < c.args.lsn → Contains c.args.txns.now e.txn in
    let viewed = all-viewed P (entries_in c.self.inside.list) in
    let Old : Table → Type 0 = λ t. HasOldEntries t c.args.lsn c.args.txns.now in (
      λ yes. subst Old (table_is c.self.view_is) (viewed.0 (c.are_among.ensures.0 yes)),
      λ old. c.are_among.ensures.1 (viewed.1 (subst Old (sym (table_is c.self.view_is)) old)),
    )
