use Rattle.std.proofs.Common.{◌≡◌, ◌∙◌, None, ap, sym, refl}
use Rattle.txn_table.specs.OpenEntry.{entry_view}
use Rattle.txn_table.specs.OpenList.{entries_in}
use Rattle.log_rules.specs.Table.{Table, entry_in}
use Rattle.log_rules.specs.Transactions.{last_of}
use Rattle.txn_table.proofs.Stored.{at-row, missing-txn}
use Rattle.txn_table.proofs.Tracked.{match_none, match_some}
use Rattle.txn_table.proofs.Viewed.{table_is}
use Rattle.txn_table.proofs.open_transactions.OpenTransactions.last_pending.Goals as goal

pub returns-in-Some : goal.returns-in-Some
returns-in-Some c =
    let at = at-row c.self.invariant c.in-Some.ensures.found c.index.ensures in
    match_some (entry_in c.args.self.now.table c.args.txn) (entry_view c.index.result.now) (c.last_pending.result ≡ None)
    (λ e. c.last_pending.result ≡ last_of e.pending)
    (ap (λ (v : Table). entry_in v c.args.txn) (sym (table_is c.self.view_is)) ∙ at.found) c.last_pending.ensures

pub returns-in-None : goal.returns-in-None
returns-in-None c =
    match_none (entry_in c.args.self.now.table c.args.txn) (None ≡ None) (λ e. None ≡ last_of e.pending)
    (ap (λ (v : Table). entry_in v c.args.txn) (sym (table_is c.self.view_is))
    ∙ missing-txn c.args.txn (entries_in c.self.inside.list) (c.row_of.ensures.none c.in-None.is))
    refl
