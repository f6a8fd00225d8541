use Rattle.std.proofs.Common.{◌∙◌, ap, refl, subst, sym}
use Rattle.std.proofs.lemmas.Result.{on_ok_weaker}
use Rattle.std.specs.Prelude.{IsSome, Option}
use Rattle.log_rules.specs.Table.{Table, TxnEntry, entry_in}
use Rattle.txn_table.proofs.Tables.{entry_is}
use Rattle.txn_table.proofs.Viewed.{table_is}
use Rattle.txn_table.proofs.table.TxnTable.make_room.Goals as goal

pub returns-clause-room : goal.returns-clause-room
returns-clause-room c =
    on_ok_weaker c.make_room.result
    (λ room rs of still. room (subst (λ (o : Option TxnEntry). IsSome o)
    (sym (ap (λ (t : Table). entry_in t c.args.txn) (table_is c.self.view_is)
    ∙ entry_is rs c.args.self.now.table c.args.txn of still)) refl)) c.make_room.ensures.room
