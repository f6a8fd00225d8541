-- The open transactions as a table keeps them, record by record.
use Rattle.std.specs.Prelude.{ℕ, ◌≡◌, ◌+◌, ◌<◌, ◌==◌, Bool, true, false, ◌&&◌, not, List, [], ◌∷◌}
use Rattle.std.specs.Prelude.{◌++◌, length, map, filter, Option, None, IsSomeAnd, if◌then◌else◌}
use Rattle.std.specs.List.{find, list_any, sum_by}
use Rattle.page_core.specs.declared.change.ChangeKind.{ChangeKind}
use Rattle.page_core.specs.Change.{kind_of}
use Rattle.log_records.specs.declared.limits.TheConstants.{MAX_OPEN}
use Rattle.log_rules.specs.declared.pending_change.PendingChange.{PendingChange}
use Rattle.log_records.specs.declared.record.Record.{Record}
use Rattle.log_records.specs.declared.record.Record.TheVariants.{Begin, Update, Comp, Commit, Abort}
use Rattle.log_records.specs.declared.record.Record.TheVariants.{End, BeginChkpt, ChkptPages}
use Rattle.log_records.specs.declared.record.Record.TheVariants.{ChkptTxns, EndChkpt, Extend}
use Rattle.log_records.specs.declared.txn_phase.TxnPhase.{TxnPhase}
use Rattle.log_records.specs.declared.txn_phase.TxnPhase.TheVariants.{Active, Rolling}
use Rattle.std.specs.Option.{option_map_or}
use Rattle.log_rules.specs.Linked.{Compensates}
use Rattle.log_rules.specs.Transactions.{begun, first_lsn, is_rolling, keeps_out}
use Rattle.log_rules.specs.Transactions.{last_lsn, last_of, open_in, pending, with_pending}
use Rattle.log_rules.specs.Transactions.{without_last}
use Rattle.log_records.specs.Least.{least}

-- an open transaction: the LSNs of its Begin and of its last record, whether it is rolling back,
-- and its pending changes
pub record TxnEntry : Type 0 where
  pub txn : ℕ
  pub first : ℕ
  pub last : ℕ
  pub rolling : Bool
  pub pending : List PendingChange

-- how many transactions began, and the open ones, the first that began first
pub record Table : Type 0 where
  pub begun : ℕ
  pub entries : List TxnEntry

-- ---- the table of a log

abbrev pub entry_of : List Record → ℕ → TxnEntry
entry_of rs t = record {
  txn = t;
  first = first_lsn rs t;
  last = last_lsn rs t;
  rolling = is_rolling rs t;
  pending = pending rs t;
}

abbrev pub table_of : List Record → Table
table_of rs = record { begun = length (begun rs); entries = map (entry_of rs) (open_in rs) }

-- ---- what a table says

-- the entry of a transaction, if it is open
abbrev pub entry_in : Table → ℕ → Option TxnEntry
entry_in table t = find (λ e. e.txn == t) table.entries

-- the least other transaction that holds a slot against a change of this kind by transaction t
abbrev pub holder_in : Table → ℕ → ℕ → ChangeKind → ℕ → Option ℕ
holder_in table page slot kind t =
    least (map (λ e. e.txn) (filter
    (λ e. not (e.txn == t) && list_any (keeps_out page slot kind) e.pending) table.entries))

abbrev pub owed_by_entry : TxnEntry → ℕ
owed_by_entry e = length e.pending + (if e.rolling then 1 else 2)

abbrev pub owed_in : Table → ℕ
owed_in table = sum_by owed_by_entry table.entries

-- ---- which record may come next

-- a PrevLSN names the last record of the entry's transaction
abbrev pub IsChained : ℕ → TxnEntry → Type 0
IsChained prev e = prev ≡ e.last

-- and the transaction is not rolling back
pub record IsActiveEntry (prev : ℕ) (e : TxnEntry) : Type 0 where
  pub chained : prev ≡ e.last
  pub active : e.rolling ≡ false

-- the entry's transaction has this state, last record and UndoNxt
pub record IsEntryNow (state : TxnPhase) (last undo : ℕ) (e : TxnEntry) : Type 0 where
  pub same_state : state ≡ (if e.rolling then Rolling else Active)
  pub same_last : last ≡ e.last
  pub same_undo : undo ≡ option_map_or (λ p. p.lsn) (last_of e.pending) e.first

-- the record may come next, as far as the transactions say; whether a Set names the number that is
-- there, and what the open checkpoint has, they do not
abbrev pub MayNote : Table → Record → Type 0
MayNote table (Begin lsn txn) = (txn ≡ table.begun + 1) × (length table.entries < MAX_OPEN)
MayNote table (Update lsn txn prev page slot change) =
    IsSomeAnd (entry_in table txn) (IsActiveEntry prev)
    × (holder_in table page slot (kind_of change) txn ≡ None)
MayNote table (Comp lsn txn prev undo_next page slot change) =
    IsSomeAnd (entry_in table txn) (λ e.
    IsChained prev e × IsSomeAnd (last_of e.pending) (Compensates undo_next page slot change))
MayNote table (Commit lsn txn prev) = IsSomeAnd (entry_in table txn) (IsActiveEntry prev)
MayNote table (Abort lsn txn prev) = IsSomeAnd (entry_in table txn) (IsActiveEntry prev)
MayNote table (End lsn txn prev) = IsSomeAnd (entry_in table txn)
    (λ e. IsChained prev e × (e.pending ≡ []))
MayNote table (ChkptTxns lsn begin txn state last undo) =
    IsSomeAnd (entry_in table txn) (IsEntryNow state last undo)
MayNote table (BeginChkpt lsn) = Unit {0}
MayNote table (ChkptPages lsn begin pages) = Unit {0}
MayNote table (EndChkpt lsn begin redo) = Unit {0}
MayNote table (Extend lsn pages) = Unit {0}

-- ---- the table after one more record

-- the entry after a record at this LSN that takes its last pending change back
abbrev pub compensated : ℕ → TxnEntry → TxnEntry
compensated lsn e = record e { last = lsn; pending = without_last e.pending }

-- the entry after a record of its transaction
abbrev pub entry_after : TxnEntry → Record → TxnEntry
entry_after e (Update lsn txn prev page slot change) = record e {
  last = lsn;
  pending = with_pending e.pending (Update lsn txn prev page slot change);
}
entry_after e (Comp lsn txn prev undo_next page slot change) = compensated lsn e
entry_after e (Abort lsn txn prev) = record e { last = lsn; rolling = true }
entry_after e (Begin lsn txn) = e
entry_after e (Commit lsn txn prev) = e
entry_after e (End lsn txn prev) = e
entry_after e (BeginChkpt lsn) = e
entry_after e (ChkptPages lsn begin pages) = e
entry_after e (ChkptTxns lsn begin txn state last undo) = e
entry_after e (EndChkpt lsn begin redo) = e
entry_after e (Extend lsn pages) = e

abbrev pub with_entry : Table → ℕ → Record → Table
with_entry table t r = record table {
  entries =
      map (λ e. if e.txn == t then entry_after e r else e) table.entries;
}

abbrev pub without_entry : Table → ℕ → Table
without_entry table t = record table { entries = filter (λ e. not (e.txn == t)) table.entries }

abbrev pub noted : Table → Record → Table
noted table (Begin lsn txn) = record {
  begun = table.begun + 1;
  entries = table.entries ++ record {
    txn = txn;
    first = lsn;
    last = lsn;
    rolling = false;
    pending = [];
  } ∷ [];
}
noted table (Update lsn txn prev page slot change) =
    with_entry table txn (Update lsn txn prev page slot change)
noted table (Comp lsn txn prev undo_next page slot change) =
    with_entry table txn (Comp lsn txn prev undo_next page slot change)
noted table (Commit lsn txn prev) = without_entry table txn
noted table (Abort lsn txn prev) = with_entry table txn (Abort lsn txn prev)
noted table (End lsn txn prev) = without_entry table txn
noted table (BeginChkpt lsn) = table
noted table (ChkptPages lsn begin pages) = table
noted table (ChkptTxns lsn begin txn state last undo) = table
noted table (EndChkpt lsn begin redo) = table
noted table (Extend lsn pages) = table
