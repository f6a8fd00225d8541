-- Which rule a record breaks that may not come next.
use Rattle.std.specs.Prelude.{ℕ, ◌≡◌, ◌≢◌, ◌+◌, ◌≤◌, true, List, [], length, take}
use Rattle.std.specs.Prelude.{Option, Some, None, IsSome, IsSomeAnd, slice_range}
use Rattle.page_core.specs.declared.page.Page.{Page}
use Rattle.page_core.specs.Change.{kind_of}
use Rattle.log_records.specs.declared.limits.TheConstants.{MAX_OPEN, RECORD_BYTES}
use Rattle.log_records.specs.declared.record.Record.{Record}
use Rattle.log_records.specs.declared.record.Record.TheVariants.{Begin, Update, Comp, Commit, Abort}
use Rattle.log_records.specs.declared.record.Record.TheVariants.{End, BeginChkpt, ChkptPages}
use Rattle.log_records.specs.declared.record.Record.TheVariants.{ChkptTxns, EndChkpt, Extend}
use Rattle.log_records.specs.Log.{Log, SpellsLog}
use Rattle.log_records.specs.Record.{record_bytes}
use Rattle.log_rules.specs.CheckpointTable.{MayNoteCheckpoint}
use Rattle.log_rules.specs.History.{IsMadeOf, Made, NamesNumberOn}
use Rattle.log_rules.specs.Linked.{Compensates, IsLinked}
use Rattle.log_rules.specs.Table.{IsEntryNow, Table, entry_in, holder_in}
use Rattle.log_rules.specs.Transactions.{begun_by, last_of, txn_of}
use Rattle.log_store.specs.declared.broken_rule.BrokenRule.{BrokenRule}
use Rattle.log_store.specs.declared.broken_rule.BrokenRule.TheVariants as rule
use Rattle.log_store.specs.declared.fault.LogReadFault.TheVariants.{BadChain}
use Rattle.log_store.specs.Fault.{IsFirstFault}

-- the PrevLSN of a record that goes on with an open transaction
abbrev pub prev_of : Record → Option ℕ
prev_of (Update lsn txn prev page slot change) = Some prev
prev_of (Comp lsn txn prev undo_next page slot change) = Some prev
prev_of (Commit lsn txn prev) = Some prev
prev_of (Abort lsn txn prev) = Some prev
prev_of (End lsn txn prev) = Some prev
prev_of (Begin lsn txn) = None
prev_of (BeginChkpt lsn) = None
prev_of (ChkptPages lsn begin pages) = None
prev_of (ChkptTxns lsn begin txn state last undo) = None
prev_of (EndChkpt lsn begin redo) = None
prev_of (Extend lsn pages) = None

-- that transaction must not be rolling back
abbrev pub NeedsActive : Record → Type 0
NeedsActive (Update lsn txn prev page slot change) = Unit {0}
NeedsActive (Commit lsn txn prev) = Unit {0}
NeedsActive (Abort lsn txn prev) = Unit {0}
NeedsActive (Begin lsn txn) = ⊥
NeedsActive (Comp lsn txn prev undo_next page slot change) = ⊥
NeedsActive (End lsn txn prev) = ⊥
NeedsActive (BeginChkpt lsn) = ⊥
NeedsActive (ChkptPages lsn begin pages) = ⊥
NeedsActive (ChkptTxns lsn begin txn state last undo) = ⊥
NeedsActive (EndChkpt lsn begin redo) = ⊥
NeedsActive (Extend lsn pages) = ⊥

-- the record breaks this rule of transactions
abbrev pub IsBrokenIn : Table → Record → BrokenRule → Type 0
IsBrokenIn table r (rule.OutOfTurn txn next) =
    (begun_by r ≡ Some txn) × (next ≡ table.begun + 1) × (txn ≢ next)
IsBrokenIn table r rule.TooManyOpen = IsSome (begun_by r) × (MAX_OPEN ≤ length table.entries)
IsBrokenIn table r (rule.NotOpen txn) =
    IsSome (prev_of r) × (txn_of r ≡ txn) × (entry_in table txn ≡ None)
IsBrokenIn table r (rule.NotChained txn prev last) =
    (prev_of r ≡ Some prev) × (txn_of r ≡ txn)
    × IsSomeAnd (entry_in table txn) (λ e. (last ≡ e.last) × (prev ≢ last))
IsBrokenIn table r (rule.RollingBack txn) =
    NeedsActive r × (txn_of r ≡ txn) × IsSomeAnd (entry_in table txn) (λ e. e.rolling ≡ true)
IsBrokenIn table (Update lsn txn prev page slot change) (rule.Held at_page at_slot other) =
    (at_page ≡ page) × (at_slot ≡ slot) × (holder_in table page slot (kind_of change) txn ≡ Some other)
IsBrokenIn table (Comp lsn txn prev undo_next page slot change) (rule.NotUndo t) =
    (t ≡ txn) × ¬ IsSomeAnd (entry_in table txn)
    (λ e. IsSomeAnd (last_of e.pending) (Compensates undo_next page slot change))
IsBrokenIn table (End lsn txn prev) (rule.Pending t) =
    (t ≡ txn) × IsSomeAnd (entry_in table txn) (λ e. e.pending ≢ [])
IsBrokenIn table (ChkptTxns lsn begin txn state last undo) (rule.NotAsRecorded t) =
    (t ≡ txn) × ¬ IsSomeAnd (entry_in table txn) (IsEntryNow state last undo)
IsBrokenIn table other another = ⊥

-- the record breaks this rule of pages
abbrev pub IsBrokenOn : List Page → Record → BrokenRule → Type 0
IsBrokenOn pages (Update lsn txn prev page slot change) (rule.NotReplaced at_page at_slot) =
    (at_page ≡ page) × (at_slot ≡ slot)
    × ¬ NamesNumberOn pages (Update lsn txn prev page slot change)
IsBrokenOn pages (Extend lsn count) (rule.NotLarger given present) =
    (given ≡ count) × (present ≡ length pages) × (count ≤ present)
IsBrokenOn pages other another = ⊥

-- the record breaks this rule, where the records so far made this
abbrev pub IsBroken : Made → Record → BrokenRule → Type 0
IsBroken made r rule.Checkpoint = ¬ MayNoteCheckpoint made.table made.checkpoints r
IsBroken made r (rule.NotReplaced page slot) = IsBrokenOn made.pages r (rule.NotReplaced page slot)
IsBroken made r (rule.NotLarger given present) = IsBrokenOn made.pages r (rule.NotLarger given present)
IsBroken made r of_txns = IsBrokenIn made.table r of_txns

-- the bytes before this offset spell a linked log, and the record there breaks this rule behind it
pub record BreaksRule (bytes : List ℕ) (at : ℕ) (rule : BrokenRule) : Type 0 where
  pub before : Log
  pub spells : SpellsLog before (take at bytes)
  pub linked : IsLinked before.records
  pub made : Made
  pub made_of : IsMadeOf before made
  pub there : Record
  pub spelled : slice_range bytes at (at + RECORD_BYTES) ≡ record_bytes there
  pub breaks : IsBroken made there rule

-- this rule is what is wrong there; without one, the first fault of the bytes is another one than
-- that the record there may not follow
abbrev pub IsRuleAt : List ℕ → ℕ → Option BrokenRule → Type 0
IsRuleAt bytes at (Some rule) = IsFirstFault bytes (BadChain at) × BreaksRule bytes at rule
IsRuleAt bytes at None = ¬ IsFirstFault bytes (BadChain at)
