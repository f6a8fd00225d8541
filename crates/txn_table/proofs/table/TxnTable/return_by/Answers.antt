use Rattle.std.proofs.Common.{◌∙◌, ◌-◌, ap, sym, cond}
use Rattle.std.specs.Prelude.{None, Some}
use Rattle.std.specs.Option.{option_map}
use Rattle.std.proofs.lemmas.Option.{same_Some}
use Rattle.txn_table.specs.declared.txn_state.TxnState.{TxnState}
use Rattle.txn_table.specs.TxnState.{state_of}
use Rattle.log_rules.specs.Table.{Table, entry_in}
use Rattle.txn_table.proofs.Going.{return_at}
use Rattle.txn_table.proofs.Tables.{entry_is}
use Rattle.txn_table.proofs.Viewed.{table_is}
use Rattle.txn_table.proofs.table.TxnTable.return_by.Goals as goal

pub returns-in-Some : goal.returns-in-Some
returns-in-Some c = λ rs of still.
    let entry = c.state.ensures ∙ ap (λ (t : Table). option_map state_of (entry_in t c.args.txn)) (table_is c.self.view_is)
    ∙ ap (option_map state_of) (entry_is rs c.args.self.now.table c.args.txn of still) in
    let state = same_Some _ _ (sym c.in-Some.is ∙ entry) in
    c.return_in.ensures
    ∙ ap (λ (s : TxnState). cond s.rolling None (Some (return_at c.args.lsn c.args.txn (s.pending - 1)))) state

pub returns-in-None : goal.returns-in-None
returns-in-None c = λ rs of still.
    let entry = c.state.ensures ∙ ap (λ (t : Table). option_map state_of (entry_in t c.args.txn)) (table_is c.self.view_is)
    ∙ ap (option_map state_of) (entry_is rs c.args.self.now.table c.args.txn of still) in
    let never = sym c.in-None.is ∙ entry in cc
