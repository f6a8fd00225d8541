use Rattle.std.proofs.Common.{◌∙◌, ap, sym, subst, cond}
use Rattle.std.specs.Prelude.{None, Some}
use Rattle.log_records.specs.declared.record.Record.TheVariants.{Comp}
use Rattle.log_rules.specs.Linked.{MayFollow}
use Rattle.log_rules.specs.Transactions.{is_rolling, pending}
use Rattle.txn_table.specs.Returns.{return_of}
use Rattle.txn_table.proofs.Comps.{length_without}
use Rattle.txn_table.proofs.Going.{return_at}
use Rattle.txn_table.proofs.table.TxnTable.return_of.Goals as goal

pub returns-in-Comp : goal.returns-in-Comp
returns-in-Comp c = λ rs of may.
    let r = c.in-Comp in
    let here : MayFollow rs (Comp r.lsn r.txn r.prev r.undo_next r.page r.slot r.change) =
    subst (MayFollow rs) r.is may in
    c.return_by.ensures rs of here.0.still_open
    ∙ ap (λ n. cond (is_rolling rs r.txn) None (Some (return_at r.lsn r.txn n)))
    (sym (length_without (pending rs r.txn)))
    ∙ ap (return_of rs) (sym r.is)
