-- Undo of the losers: the transactions that are open at the end of a log.
use Rattle.std.specs.Prelude.{ℕ, ◌==◌, Bool, ◌&&◌, List, [], ◌∷◌, ◌++◌, length, filter, reverse}
use Rattle.std.specs.Prelude.{Option, Some, None, if◌then◌else◌}
use Rattle.std.specs.List.{filter_map, fold, list_any}
use Rattle.page_core.specs.Change.{undo_of}
use Rattle.log_records.specs.declared.record.Record.{Record}
use Rattle.log_records.specs.declared.record.Record.TheVariants.{Begin, Update, Comp, Commit, Abort}
use Rattle.log_records.specs.declared.record.Record.TheVariants.{End, BeginChkpt, ChkptPages}
use Rattle.log_records.specs.declared.record.Record.TheVariants.{ChkptTxns, EndChkpt, Extend}
use Rattle.log_records.specs.Log.{lsn_of}
use Rattle.log_rules.specs.declared.pending_change.PendingChange.{PendingChange}
use Rattle.log_rules.specs.Transactions.{is_open, last_lsn, open_in, pending}

-- ---- what undo finds

-- a change that undo takes back, and its transaction
pub record LostChange : Type 0 where
  pub txn : ℕ
  pub change : PendingChange

-- the Update with this LSN is one of an open transaction, and its change is pending
abbrev pub is_lost : List Record → ℕ → ℕ → Bool
is_lost rs txn lsn = is_open rs txn && list_any (λ p. p.lsn == lsn) (pending rs txn)

-- the lost change of a record, if it has one
abbrev pub lost_by : List Record → Record → Option LostChange
lost_by rs (Update lsn txn prev page slot change) = if is_lost rs txn lsn then Some (record {
  txn = txn;
  change = record { lsn = lsn; prev = prev; page = page; slot = slot; change = change };
}) else None
lost_by rs (Begin lsn txn) = None
lost_by rs (Comp lsn txn prev undo_next page slot change) = None
lost_by rs (Commit lsn txn prev) = None
lost_by rs (Abort lsn txn prev) = None
lost_by rs (End lsn txn prev) = None
lost_by rs (BeginChkpt lsn) = None
lost_by rs (ChkptPages lsn begin pages) = None
lost_by rs (ChkptTxns lsn begin txn state last undo_next) = None
lost_by rs (EndChkpt lsn begin redo) = None
lost_by rs (Extend lsn pages) = None

-- the pending changes of all open transactions, the last first: LSNs rise along a log, so theirs
-- fall
abbrev pub lost_changes : List Record → List LostChange
lost_changes rs = reverse (filter_map (lost_by rs) rs)

-- nothing is pending for the transaction
abbrev pub is_undone : List Record → ℕ → Bool
is_undone rs txn = length (pending rs txn) == 0

-- the open transactions with nothing pending, in order of their numbers
abbrev pub spent : List Record → List ℕ
spent rs = filter (is_undone rs) (open_in rs)

-- ---- what undo appends

-- the End of a transaction; its PrevLSN is the LSN of the transaction's last record
abbrev pub end_of : List Record → ℕ → Record
end_of rs txn = End (lsn_of (length rs)) txn (last_lsn rs txn)

-- the compensation of a change; its UndoNxt is the PrevLSN of the Update that made it
abbrev pub comp_of : List Record → LostChange → Record
comp_of rs lost = let p = lost.change in
    Comp (lsn_of (length rs)) lost.txn (last_lsn rs lost.txn)
    p.prev p.page p.slot (undo_of p.change)

abbrev pub with_end : List Record → ℕ → List Record
with_end rs txn = rs ++ end_of rs txn ∷ []

abbrev pub with_comp : List Record → LostChange → List Record
with_comp rs lost = rs ++ comp_of rs lost ∷ []

-- what a log is once one change was compensated; if its transaction owed nothing else, the End of
-- that transaction comes right behind
unfoldable pub taken_back : List Record → LostChange → List Record
taken_back rs lost = let after = with_comp rs lost in
    if is_undone after lost.txn then with_end after lost.txn else after

-- what undo makes of a log: it ends the losers that have nothing to take back, and then it takes
-- back one lost change after another. It writes no Abort
unfoldable pub after_undo : List Record → List Record
after_undo rs = fold taken_back (fold with_end rs (spent rs)) (lost_changes rs)
