use Rattle.std.proofs.Common.{◌∙◌, ◌&&◌, not, eqb, ap, sym}
use Rattle.std.specs.List.{find}
use Rattle.std.specs.Option.{option_map}
use Rattle.txn_table.specs.declared.open_entry.OpenEntry.{OpenEntry}
use Rattle.slot_claims.specs.declared.row_set.RowSet.{RowSet}
use Rattle.slot_claims.specs.Claims.{rows_against}
use Rattle.txn_table.specs.OpenList.{entries_in}
use Rattle.slot_claims.specs.RowSet.{has_row}
use Rattle.log_rules.specs.Table.{Table, holder_in}
use Rattle.txn_table.proofs.Tracked.{least-holder}
use Rattle.txn_table.proofs.Viewed.{table_is}
use Rattle.txn_table.proofs.open_transactions.OpenTransactions.holder.Goals as goal

pub returns : goal.returns
returns c =
    let first = λ (rows : RowSet). option_map (λ (e : OpenEntry). e.txn)
    (find (λ e. not (eqb e.txn c.args.txn) && has_row rows e.row) (entries_in c.self.inside.list)) in
    c.first_other.ensures
    ∙ ap first (c.against-rows.ensures ∙ ap (λ k. rows_against k c.args.kind) c.claim.ensures)
    ∙ sym (least-holder c.args.page c.args.slot c.args.kind c.args.txn c.self.invariant.tracks)
    ∙ ap (λ (v : Table). holder_in v c.args.page c.args.slot c.args.kind c.args.txn) (table_is c.self.view_is)
