-- Which record may follow which: the logs that an engine could have written.
use Rattle.std.specs.Prelude.{ℕ, ◌≡◌, ◌+◌, ◌<◌, true, false, List, [], length, take, slice_index}
use Rattle.std.specs.Prelude.{slice_index_or, None, IsSomeAnd, IfSome, Contains}
use Rattle.std.specs.List.{All, AllByRecursion}
use Rattle.page_core.specs.declared.change.Change.{Change}
use Rattle.page_core.specs.Change.{Replaces, kind_of, undo_of}
use Rattle.log_records.specs.declared.limits.TheConstants.{MAX_OPEN}
use Rattle.log_rules.specs.declared.pending_change.PendingChange.{PendingChange}
use Rattle.log_records.specs.declared.record.Record.{Record}
use Rattle.log_records.specs.declared.record.Record.TheVariants.{Begin, Update, Comp, Commit, Abort}
use Rattle.log_records.specs.declared.record.Record.TheVariants.{End, BeginChkpt, ChkptPages}
use Rattle.log_records.specs.declared.record.Record.TheVariants.{ChkptTxns, EndChkpt, Extend}
use Rattle.log_records.specs.declared.dirty_page.DirtyPages.{DirtyPages}
use Rattle.log_records.specs.declared.txn_phase.TxnPhase.{TxnPhase}
use Rattle.log_records.specs.Coverage.{changes_on}
use Rattle.log_records.specs.DirtyPage.{entries_of}
use Rattle.log_rules.specs.Checkpoint.{Checkpoint, open_checkpoint, redo_point}
use Rattle.log_records.specs.Image.{image}
use Rattle.log_rules.specs.Transactions.{begun, first_lsn, holder, is_open, is_rolling, last_lsn}
use Rattle.log_rules.specs.Transactions.{last_of, open_in, pending, phase, undo_next}

-- the number in a slot, as the log makes it
abbrev pub number_in : List Record → ℕ → ℕ → ℕ
number_in rs page slot = slice_index (image rs page).slots slot

-- an open transaction goes on: its PrevLSN is the LSN of its last record
pub record GoesOn (before : List Record) (txn prev : ℕ) : Type 0 where
  pub still_open : is_open before txn ≡ true
  pub chained : prev ≡ last_lsn before txn

-- and it is not rolling back
pub record IsActive (before : List Record) (txn prev : ℕ) : Type 0 where
  pub goes_on : GoesOn before txn prev
  pub active : is_rolling before txn ≡ false

-- the next transaction begins
pub record MayBegin (before : List Record) (txn : ℕ) : Type 0 where
  pub next : txn ≡ length (begun before) + 1
  pub room : length (open_in before) < MAX_OPEN

-- an active transaction changes a slot that no other one holds against it; a Set names the number
-- that is there
pub record MayUpdate (before : List Record) (txn prev page slot : ℕ)
    (change : Change) : Type 0 where
  pub active : IsActive before txn prev
  pub free : holder before page slot (kind_of change) txn ≡ None
  pub replaces : Replaces change (number_in before page slot)

-- the compensation of a pending change: its undo, on its slot; UndoNxt is its PrevLSN
pub record Compensates (undo_next page slot : ℕ) (change : Change)
    (p : PendingChange) : Type 0 where
  pub next : undo_next ≡ p.prev
  pub same_page : page ≡ p.page
  pub same_slot : slot ≡ p.slot
  pub undoes : change ≡ undo_of p.change

-- dirty pages of the open checkpoint, before its transactions and above those that it has; `begin`
-- names it, here and below
pub record MayRecordPages (begin : ℕ) (pages : DirtyPages) (c : Checkpoint) : Type 0 where
  pub same : begin ≡ c.begin
  pub early : c.txns ≡ []
  pub above : IfSome (last_of c.pages)
      (λ last. AllByRecursion (λ e. last.page < e.page) (entries_of pages))

-- each RecLSN is the LSN of a change of its page
abbrev pub ArePagesNow : List Record → DirtyPages → Type 0
ArePagesNow before pages =
    AllByRecursion (λ e. Contains (changes_on before e.page) e.rec_lsn) (entries_of pages)

-- a transaction of the open checkpoint, above those that it has
pub record MayRecordTxn (begin txn : ℕ) (c : Checkpoint) : Type 0 where
  pub same : begin ≡ c.begin
  pub above : IfSome (last_of c.txns) (λ last. last < txn)

-- the transaction is open, and these are its state, the LSN of its last record, and its UndoNxt
pub record IsTxnNow (before : List Record) (txn : ℕ) (state : TxnPhase)
    (last undo : ℕ) : Type 0 where
  pub still_open : is_open before txn ≡ true
  pub same_state : state ≡ phase before txn
  pub same_last : last ≡ last_lsn before txn
  pub same_undo : undo ≡ undo_next before txn

-- the redo point of the open checkpoint
pub record MayEnd (begin redo : ℕ) (c : Checkpoint) : Type 0 where
  pub same : begin ≡ c.begin
  pub least : redo ≡ redo_point c

-- it has each open transaction that began before it
abbrev pub HasOldTxns : List Record → Checkpoint → Type 0
HasOldTxns before c = All (λ t. first_lsn before t < c.begin → Contains c.txns t) (open_in before)

-- the record may come behind these. That an Extend gives more pages than there were is a matter of
-- the whole log, whose header has the first page count (`IsLog`)
abbrev pub MayFollow : List Record → Record → Type 0
MayFollow before (Begin lsn txn) = MayBegin before txn
MayFollow before (Update lsn txn prev page slot change) = MayUpdate before txn prev page slot change
MayFollow before (Comp lsn txn prev undo_next page slot change) =
    GoesOn before txn prev × IsSomeAnd (last_of (pending before txn))
    (Compensates undo_next page slot change)
MayFollow before (Commit lsn txn prev) = IsActive before txn prev
MayFollow before (Abort lsn txn prev) = IsActive before txn prev
MayFollow before (End lsn txn prev) = GoesOn before txn prev × (pending before txn ≡ [])
MayFollow before (BeginChkpt lsn) = open_checkpoint before ≡ None
MayFollow before (ChkptPages lsn begin pages) =
    IsSomeAnd (open_checkpoint before) (MayRecordPages begin pages) × ArePagesNow before pages
MayFollow before (ChkptTxns lsn begin txn state last undo_next) =
    IsSomeAnd (open_checkpoint before) (MayRecordTxn begin txn)
    × IsTxnNow before txn state last undo_next
MayFollow before (EndChkpt lsn begin redo) =
    IsSomeAnd (open_checkpoint before) (λ c. MayEnd begin redo c × HasOldTxns before c)
MayFollow before (Extend lsn pages) = Unit {0}

-- each record may come behind those before it
abbrev pub IsLinked : List Record → Type 0
IsLinked rs = (i : ℕ) (d : Record) → i < length rs → MayFollow (take i rs) (slice_index_or rs i d)
