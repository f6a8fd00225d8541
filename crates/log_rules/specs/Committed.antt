-- What the committed transactions of a log leave.
use Rattle.std.specs.Prelude.{ℕ, ◌==◌, ◌&&◌, List, [], ◌∷◌, ◌++◌, if◌then◌else◌}
use Rattle.page_core.specs.Change.{changed}
use Rattle.log_rules.specs.declared.pending_change.PendingChange.{PendingChange}
use Rattle.log_records.specs.declared.record.Record.{Record}
use Rattle.log_records.specs.declared.record.Record.TheVariants.{Begin, Update, Comp, Commit, Abort}
use Rattle.log_records.specs.declared.record.Record.TheVariants.{End, BeginChkpt, ChkptPages}
use Rattle.log_records.specs.declared.record.Record.TheVariants.{ChkptTxns, EndChkpt, Extend}
use Rattle.log_rules.specs.Transactions.{pending}

-- the number of each slot of each page
abbrev pub Values : Type 0
Values = ℕ → ℕ → ℕ

abbrev pub zeros : Values
zeros page slot = 0

-- the numbers after these changes, one after another
abbrev pub with_changes : Values → List PendingChange → Values
with_changes values [] = values
with_changes values (p ∷ ps) = with_changes
    (λ page slot. if (page == p.page) && (slot == p.slot) then changed p.change
    (values page slot) else values page slot)
    ps

-- a Commit makes the changes that are pending for its transaction there, as one block
abbrev pub with_commit : List Record → Values → Record → Values
with_commit before values (Commit lsn txn prev) = with_changes values (pending before txn)
with_commit before values (Begin lsn txn) = values
with_commit before values (Update lsn txn prev page slot change) = values
with_commit before values (Comp lsn txn prev undo_next page slot change) = values
with_commit before values (Abort lsn txn prev) = values
with_commit before values (End lsn txn prev) = values
with_commit before values (BeginChkpt lsn) = values
with_commit before values (ChkptPages lsn begin pages) = values
with_commit before values (ChkptTxns lsn begin txn state last undo) = values
with_commit before values (EndChkpt lsn begin redo) = values
with_commit before values (Extend lsn pages) = values

abbrev pub committed_from : List Record → Values → List Record → Values
committed_from before values [] = values
committed_from before values (r ∷ rs) =
    committed_from (before ++ r ∷ []) (with_commit before values r) rs

-- from zeros, the changes of each Commit of the log, in order
abbrev pub committed : List Record → Values
committed rs = committed_from [] zeros rs
