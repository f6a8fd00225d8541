use Rattle.std.proofs.Common.{◌∙◌, Some, ap, sym}
use Rattle.std.specs.Option.{option_map}
use Rattle.txn_table.specs.OpenList.{entries_in}
use Rattle.txn_table.specs.TxnState.{state_of}
use Rattle.log_rules.specs.Table.{Table, entry_in}
use Rattle.txn_table.proofs.Stored.{at-row, missing-txn}
use Rattle.txn_table.proofs.Viewed.{table_is}
use Rattle.txn_table.proofs.open_transactions.OpenTransactions.state.Goals as goal

pub returns-in-Some : goal.returns-in-Some
returns-in-Some c =
    let at = at-row c.self.invariant c.in-Some.ensures.found c.index.ensures in
    ap Some c.state.ensures ∙ ap (option_map state_of) (sym at.found)
    ∙ ap (λ (v : Table). option_map state_of (entry_in v c.args.txn)) (table_is c.self.view_is)

pub returns-in-None : goal.returns-in-None
returns-in-None c =
    ap (option_map state_of)
    (sym (missing-txn c.args.txn (entries_in c.self.inside.list) (c.row_of.ensures.none c.in-None.is)))
    ∙ ap (λ (v : Table). option_map state_of (entry_in v c.args.txn)) (table_is c.self.view_is)
