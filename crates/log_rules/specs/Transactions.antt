-- The transactions of a log, read from its beginning.
use Rattle.std.specs.Prelude.{ℕ, ◌+◌, ◌-◌, ◌==◌, Bool, true, false, ◌&&◌, not, List, [], ◌∷◌}
use Rattle.std.specs.Prelude.{◌++◌, length, map, filter, take, Option, Some, None, slice_get}
use Rattle.std.specs.Prelude.{if◌then◌else◌}
use Rattle.std.specs.List.{filter_map, list_any, sum_by}
use Rattle.std.specs.Option.{option_map_or}
use Rattle.page_core.specs.declared.change.ChangeKind.{ChangeKind}
use Rattle.page_core.specs.declared.change.ChangeKind.TheVariants as kind
use Rattle.page_core.specs.Change.{kind_of}
use Rattle.log_rules.specs.declared.pending_change.PendingChange.{PendingChange}
use Rattle.log_records.specs.Least.{least}
use Rattle.log_records.specs.declared.record.Record.{Record}
use Rattle.log_records.specs.declared.record.Record.TheVariants.{Begin, Update, Comp, Commit, Abort}
use Rattle.log_records.specs.declared.record.Record.TheVariants.{End, BeginChkpt, ChkptPages}
use Rattle.log_records.specs.declared.record.Record.TheVariants.{ChkptTxns, EndChkpt, Extend}
use Rattle.log_records.specs.declared.txn_phase.TxnPhase.{TxnPhase}
use Rattle.log_records.specs.declared.txn_phase.TxnPhase.TheVariants.{Active, Rolling}
use Rattle.log_records.specs.Record.{own_lsn}

-- the transaction of a record; 0, which is no transaction, of a checkpoint's record
-- and of an Extend
abbrev pub txn_of : Record → ℕ
txn_of (Begin lsn txn) = txn
txn_of (Update lsn txn prev page slot change) = txn
txn_of (Comp lsn txn prev undo_next page slot change) = txn
txn_of (Commit lsn txn prev) = txn
txn_of (Abort lsn txn prev) = txn
txn_of (End lsn txn prev) = txn
txn_of (BeginChkpt lsn) = 0
txn_of (ChkptPages lsn begin pages) = 0
txn_of (ChkptTxns lsn begin txn state last undo) = 0
txn_of (EndChkpt lsn begin redo) = 0
txn_of (Extend lsn pages) = 0

-- the transaction that a record begins
abbrev pub begun_by : Record → Option ℕ
begun_by (Begin lsn txn) = Some txn
begun_by (Update lsn txn prev page slot change) = None
begun_by (Comp lsn txn prev undo_next page slot change) = None
begun_by (Commit lsn txn prev) = None
begun_by (Abort lsn txn prev) = None
begun_by (End lsn txn prev) = None
begun_by (BeginChkpt lsn) = None
begun_by (ChkptPages lsn begin pages) = None
begun_by (ChkptTxns lsn begin txn state last undo) = None
begun_by (EndChkpt lsn begin redo) = None
begun_by (Extend lsn pages) = None

-- a record ends its transaction: it commits, or all is taken back
abbrev pub is_last : Record → Bool
is_last (Commit lsn txn prev) = true
is_last (End lsn txn prev) = true
is_last (Begin lsn txn) = false
is_last (Update lsn txn prev page slot change) = false
is_last (Comp lsn txn prev undo_next page slot change) = false
is_last (Abort lsn txn prev) = false
is_last (BeginChkpt lsn) = false
is_last (ChkptPages lsn begin pages) = false
is_last (ChkptTxns lsn begin txn state last undo) = false
is_last (EndChkpt lsn begin redo) = false
is_last (Extend lsn pages) = false

-- a record says that its transaction takes all its changes back, and ends
abbrev pub is_abort : Record → Bool
is_abort (Abort lsn txn prev) = true
is_abort (Begin lsn txn) = false
is_abort (Update lsn txn prev page slot change) = false
is_abort (Comp lsn txn prev undo_next page slot change) = false
is_abort (Commit lsn txn prev) = false
is_abort (End lsn txn prev) = false
is_abort (BeginChkpt lsn) = false
is_abort (ChkptPages lsn begin pages) = false
is_abort (ChkptTxns lsn begin txn state last undo) = false
is_abort (EndChkpt lsn begin redo) = false
is_abort (Extend lsn pages) = false

-- the records of a transaction
abbrev pub records_of : List Record → ℕ → List Record
records_of rs t = filter (λ r. txn_of r == t) rs

-- the transactions that began, in their order
abbrev pub begun : List Record → List ℕ
begun rs = filter_map begun_by rs

-- the open ones: those that began, and have neither committed nor ended
abbrev pub is_open : List Record → ℕ → Bool
is_open rs t = list_any (λ b. b == t) (begun rs) && not (list_any is_last (records_of rs t))

abbrev pub open_in : List Record → List ℕ
open_in rs = filter (is_open rs) (begun rs)

-- a transaction is rolling back from its Abort on; a Comp alone takes back a change, and no more
abbrev pub is_rolling : List Record → ℕ → Bool
is_rolling rs t = list_any is_abort (records_of rs t)

-- the last of a list, or what stands in for it
abbrev pub last_or : {X : Type 0} → X → List X → X
last_or d [] = d
last_or d (x ∷ xs) = last_or x xs

-- the LSN of a transaction's first record, its Begin; 0 where it has none
abbrev pub first_lsn : List Record → ℕ → ℕ
first_lsn rs t = option_map_or own_lsn (slice_get (records_of rs t) 0) 0

-- the LSN of a transaction's last record; 0 where it has none
abbrev pub last_lsn : List Record → ℕ → ℕ
last_lsn rs t = last_or 0 (map own_lsn (records_of rs t))

-- ---- pending changes

abbrev pub without_last : {X : Type 0} → List X → List X
without_last xs = take (length xs - 1) xs

abbrev pub last_of : {X : Type 0} → List X → Option X
last_of xs = slice_get xs (length xs - 1)

-- the changes that are pending after one more record of the transaction: an Update adds one at the
-- end, and a Comp takes the last one away
abbrev pub with_pending : List PendingChange → Record → List PendingChange
with_pending changes (Update lsn txn prev page slot change) =
    changes ++ record { lsn = lsn; prev = prev; page = page; slot = slot; change = change } ∷ []
with_pending changes (Comp lsn txn prev undo_next page slot change) = without_last changes
with_pending changes (Begin lsn txn) = changes
with_pending changes (Commit lsn txn prev) = changes
with_pending changes (Abort lsn txn prev) = changes
with_pending changes (End lsn txn prev) = changes
with_pending changes (BeginChkpt lsn) = changes
with_pending changes (ChkptPages lsn begin pages) = changes
with_pending changes (ChkptTxns lsn begin txn state last undo) = changes
with_pending changes (EndChkpt lsn begin redo) = changes
with_pending changes (Extend lsn pages) = changes

abbrev pub pending_from : List PendingChange → List Record → List PendingChange
pending_from changes [] = changes
pending_from changes (r ∷ rs) = pending_from (with_pending changes r) rs

-- a transaction's changes that are not compensated yet, the oldest first
abbrev pub pending : List Record → ℕ → List PendingChange
pending rs t = pending_from [] (records_of rs t)

-- what an open transaction is doing
abbrev pub phase : List Record → ℕ → TxnPhase
phase rs t = if is_rolling rs t then Rolling else Active

-- where a rollback of the transaction would begin: at its newest Update that is still pending, or
-- else at its Begin
abbrev pub undo_next : List Record → ℕ → ℕ
undo_next rs t = option_map_or (λ p. p.lsn) (last_of (pending rs t)) (first_lsn rs t)

-- ---- who holds a slot

abbrev pub is_add : ChangeKind → Bool
is_add kind.Add = true
is_add kind.Set = false

-- a pending change keeps another transaction's change of this kind from its slot: only two Adds may
-- stand there
abbrev pub keeps_out : ℕ → ℕ → ChangeKind → PendingChange → Bool
keeps_out page slot kind p =
    (p.page == page) && (p.slot == slot) && not (is_add kind && is_add (kind_of p.change))

-- the least other open transaction that holds the slot against a change of this kind by transaction
-- t
abbrev pub holder : List Record → ℕ → ℕ → ChangeKind → ℕ → Option ℕ
holder rs page slot kind t =
    least (filter (λ o. not (o == t) && list_any (keeps_out page slot kind) (pending rs o))
    (open_in rs))

-- ---- room

-- the records that an open transaction may still need: one for each pending change, its Abort, and
-- its last one
abbrev pub owed_by : List Record → ℕ → ℕ
owed_by rs t = length (pending rs t) + (if is_rolling rs t then 1 else 2)

abbrev pub owed : List Record → ℕ
owed rs = sum_by (owed_by rs) (open_in rs)
