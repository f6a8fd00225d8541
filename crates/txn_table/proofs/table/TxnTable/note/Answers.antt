use Rattle.std.proofs.Common.{ap, subst, sym, ◌∙◌}
use Rattle.log_rules.specs.Table.{MayNote, Table, noted}
use Rattle.log_rules.proofs.Public.{may_note}
use Rattle.log_rules.proofs.Public.{table_of_push}
use Rattle.txn_table.proofs.Owed.{owed_next}
use Rattle.txn_table.proofs.Viewed.{table_is}
use Rattle.txn_table.proofs.table.TxnTable.note.Goals as goal

pub note-requires : goal.note-requires
note-requires c =
    let rs = c.requires.0 in
    subst (λ (t : Table). MayNote t c.args.next.now) (sym ((table_is c.self.view_is) ∙ c.requires.1.0.made))
    (may_note rs c.args.next.now c.requires.1.1)

-- the sum is that of the table with the record
pub invariant_of-self-2 : goal.invariant_of-self-2
invariant_of-self-2 c =
    let rs = c.requires.0 in
    let of = c.requires.1.0 in
    let may = c.requires.1.1 in
    owed_next c.args.self.now.table c.note.new.self.table c.owed_after-owed.result rs c.args.next.now of may
    (c.owed_after-owed.ensures rs of may)
    (c.in_ok-note.ensures.ok ∙ ap (λ (t : Table). noted t c.args.next.now) (table_is c.self.view_is))

pub returns-clause-ok : goal.returns-clause-ok
returns-clause-ok c rs of may =
    c.in_ok-note.ensures.ok
    ∙ ap (λ (t : Table). noted t c.args.next.now) ((table_is c.self.view_is) ∙ of.made)
    ∙ sym (table_of_push rs c.args.next.now of.linked may)
