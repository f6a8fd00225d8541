use Rattle.std.proofs.Common.{◌≡◌, ap, ◌∙◌}
use Rattle.std.specs.Prelude.{Option, Some, None, MatchOption}
use Rattle.std.specs.Option.{option_and_then}
use Rattle.log_rules.specs.declared.pending_change.PendingChange.{PendingChange}
use Rattle.log_rules.specs.Table.{TxnEntry, Table, entry_in}
use Rattle.log_rules.specs.Transactions.{last_of}
use Rattle.txn_table.proofs.Tables.{last_pending_is}
use Rattle.txn_table.proofs.Viewed.{table_is}
use Rattle.txn_table.proofs.table.TxnTable.last_pending.Goals as goal

said : (o : Option TxnEntry) (r : Option PendingChange) → MatchOption o (r ≡ None) (λ e. r ≡ last_of e.pending)
    → r ≡ option_and_then (λ (e : TxnEntry). last_of e.pending) o
said None r h = h
said (Some e) r h = h

pub returns : goal.returns
returns c = λ rs of.
    said (entry_in c.self.inside.open.table c.args.txn) c.last_pending.result c.last_pending.ensures
    ∙ ap (λ (t : Table). option_and_then (λ (e : TxnEntry). last_of e.pending) (entry_in t c.args.txn)) (table_is c.self.view_is)
    ∙ last_pending_is rs c.args.self.now.table c.args.txn of
