use Rattle.std.proofs.Common.{ap, ◌∙◌}
use Rattle.std.specs.Option.{option_and_then, option_map}
use Rattle.log_rules.specs.Table.{Table, entry_in}
use Rattle.txn_table.specs.TxnState.{next_in, state_of}
use Rattle.txn_table.proofs.Tables.{next_from_is}
use Rattle.txn_table.proofs.Viewed.{table_is}
use Rattle.txn_table.proofs.table.TxnTable.next_from.Goals as goal

pub returns : goal.returns
returns c = λ rs of.
    let from = c.args.cursor in
    c.next_from.ensures ∙ ap
    (λ (t : Table). option_map state_of (option_and_then (entry_in t) (next_in t from))) (table_is c.self.view_is)
    ∙ next_from_is rs c.args.self.now.table from of
