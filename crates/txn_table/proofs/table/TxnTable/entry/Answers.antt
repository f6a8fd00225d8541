use Rattle.std.proofs.Common.{ap, ◌∙◌}
use Rattle.std.specs.Option.{option_map}
use Rattle.log_rules.specs.Table.{Table, entry_in}
use Rattle.txn_table.specs.TxnState.{state_of}
use Rattle.txn_table.proofs.Tables.{state_is}
use Rattle.txn_table.proofs.Viewed.{table_is}
use Rattle.txn_table.proofs.table.TxnTable.entry.Goals as goal

pub returns : goal.returns
returns c = λ rs of.
    c.state.ensures ∙ ap (λ (t : Table). option_map state_of (entry_in t c.args.txn)) (table_is c.self.view_is)
    ∙ state_is rs c.args.self.now.table c.args.txn of
