use Rattle.std.proofs.Common.{ap, sym, ◌∙◌, min, ℕ}
use Rattle.std.proofs.Math.Nat.{min-eq_left}
use Rattle.log_rules.specs.Transactions.{owed_by}
use Rattle.txn_table.proofs.Owed.{state_is_there, state_owed}
use Rattle.txn_table.proofs.Viewed.{table_is}
use Rattle.txn_table.proofs.table.TxnTable.owed_by.Goals as goal

pub returns-in-Some : goal.returns-in-Some
returns-in-Some c rs of still fits =
    let own =
    state_owed c.self.inside.open.table c.args.self.now.table rs c.args.txn c.state.result c.in-Some.state
    (table_is c.self.view_is) of still c.state.ensures c.in-Some.is in
    c.owed_in_state.ensures ∙ ap (λ (n : ℕ). min n 18446744073709551615) (sym own) ∙ min-eq_left fits

pub returns-in-None : goal.returns-in-None
returns-in-None c rs of still fits =
    state_is_there c.self.inside.open.table c.args.self.now.table rs c.args.txn c.state.result
    (owed_by rs c.args.txn) (table_is c.self.view_is) of still c.state.ensures c.in-None.is
