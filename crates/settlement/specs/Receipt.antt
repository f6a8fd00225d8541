-- When a receipt is true of a log.
use Rattle.std.specs.Prelude.{ℕ, ◌≡◌, ◌<◌, ◌≤◌, nat_lt, Bool, true, false, List, length, take}
use Rattle.std.specs.Prelude.{◌==◌, not, map, filter, count_by, slice_get, slice_index_or}
use Rattle.std.specs.Prelude.{Option, None, Some, IsSomeAnd}
use Rattle.std.specs.List.{All}
use Rattle.page_core.specs.declared.change.Change.{Change}
use Rattle.page_core.specs.declared.change.Change.TheVariants.{Set, Add}
use Rattle.page_core.specs.declared.change.ChangeKind.{ChangeKind}
use Rattle.page_core.specs.Change.{kind_of}
use Rattle.log_records.specs.declared.record.Record.{Record}
use Rattle.log_records.specs.declared.record.Record.TheVariants as log
use Rattle.log_records.specs.Log.{lsn_of}
use Rattle.log_records.specs.Record.{own_lsn}
use Rattle.log_rules.specs.Linked.{number_in}
use Rattle.log_rules.specs.Transactions.{txn_of}
use Rattle.settlement.specs.declared.receipt.ChangeReceipt.{ChangeReceipt}
use Rattle.settlement.specs.declared.receipt.ReadReceipt.{ReadReceipt}
use Rattle.settlement.specs.declared.receipt.Receipt.{Receipt}
use Rattle.settlement.specs.declared.receipt.Receipt.TheVariants.{Changed, Stepped, Read}
use Rattle.settlement.specs.declared.receipt.StepReceipt.{StepReceipt}
use Rattle.settlement.specs.declared.receipt.TxnStep.{TxnStep}
use Rattle.settlement.specs.declared.receipt.TxnStep.TheVariants as step

abbrev pub change_receipt : ℕ → ℕ → ℕ → ℕ → ChangeKind → ℕ → ChangeReceipt
change_receipt lsn txn page slot kind number = record {
  lsn = lsn;
  txn = txn;
  page = page;
  slot = slot;
  kind = kind;
  number = number;
}

abbrev pub step_receipt : ℕ → ℕ → TxnStep → StepReceipt
step_receipt lsn txn step = record { lsn = lsn; txn = txn; step = step }

abbrev pub read_receipt : ℕ → ℕ → ℕ → ℕ → ReadReceipt
read_receipt end page slot number = record {
  end = end;
  page = page;
  slot = slot;
  number = number;
}

-- where the log shows it: the LSN of its record, or the log's end at the read
abbrev pub position : Receipt → ℕ
position (Changed it) = it.lsn
position (Stepped it) = it.lsn
position (Read it) = it.end

-- a read leaves no record
abbrev pub is_read : Receipt → Bool
is_read (Read it) = true
is_read other = false

-- the number that a change sets or adds
abbrev pub given : Change → ℕ
given (Set before after) = after
given (Add amount) = amount

-- the change is of this kind, and sets or adds this number
pub record IsChangeOf (kind : ChangeKind) (number : ℕ) (change : Change) : Type 0 where
  pub same_kind : kind_of change ≡ kind
  pub same_number : given change ≡ number

-- the step of its transaction that a record shows, if it shows one
abbrev pub step_of : Record → Option TxnStep
step_of (log.Begin lsn txn) = Some step.Begin
step_of (log.Update lsn txn prev page slot change) = None
step_of (log.Comp lsn txn prev undo_next page slot change) = Some step.Comp
step_of (log.Commit lsn txn prev) = Some step.Commit
step_of (log.Abort lsn txn prev) = Some step.Abort
step_of (log.End lsn txn prev) = Some step.End
step_of (log.BeginChkpt lsn) = None
step_of (log.ChkptPages lsn begin pages) = None
step_of (log.ChkptTxns lsn begin txn state last undo_next) = None
step_of (log.EndChkpt lsn begin redo) = None
step_of (log.Extend lsn pages) = None

-- the step that the log shows of it: an unsure commit has a Commit
abbrev pub logged_step : TxnStep → TxnStep
logged_step step.Unsure = step.Commit
logged_step step.Begin = step.Begin
logged_step step.Commit = step.Commit
logged_step step.Abort = step.Abort
logged_step step.Comp = step.Comp
logged_step step.End = step.End

-- the record says that this transaction took this step
abbrev pub IsStepOf : ℕ → TxnStep → Record → Type 0
IsStepOf txn step r = (txn_of r ≡ txn) × (step_of r ≡ Some (logged_step step))

-- the record is an Update of this slot by this transaction, and such a change
abbrev pub IsUpdateOf : ℕ → ℕ → ℕ → (Change → Type 0) → Record → Type 0
IsUpdateOf txn page slot IsSuch (log.Update lsn t prev p s change) =
    (t ≡ txn) × (p ≡ page) × (s ≡ slot) × IsSuch change
IsUpdateOf txn page slot IsSuch (log.Begin lsn t) = ⊥
IsUpdateOf txn page slot IsSuch (log.Comp lsn t prev undo_next p s change) = ⊥
IsUpdateOf txn page slot IsSuch (log.Commit lsn t prev) = ⊥
IsUpdateOf txn page slot IsSuch (log.Abort lsn t prev) = ⊥
IsUpdateOf txn page slot IsSuch (log.End lsn t prev) = ⊥
IsUpdateOf txn page slot IsSuch (log.BeginChkpt lsn) = ⊥
IsUpdateOf txn page slot IsSuch (log.ChkptPages lsn begin pages) = ⊥
IsUpdateOf txn page slot IsSuch (log.ChkptTxns lsn begin t state last undo_next) = ⊥
IsUpdateOf txn page slot IsSuch (log.EndChkpt lsn begin redo) = ⊥
IsUpdateOf txn page slot IsSuch (log.Extend lsn pages) = ⊥

-- the record is the one that the receipt speaks of
abbrev pub IsRecordOf : Receipt → Record → Type 0
IsRecordOf (Changed it) r = IsUpdateOf it.txn it.page it.slot (IsChangeOf it.kind it.number) r
IsRecordOf (Stepped it) r = IsStepOf it.txn it.step r
IsRecordOf (Read it) r = ⊥

-- the log has such a record at this LSN
abbrev pub HasAt : List Record → ℕ → (Record → Type 0) → Type 0
HasAt rs lsn IsSuch = (i : ℕ) × (lsn ≡ lsn_of i) × IsSomeAnd (slice_get rs i) IsSuch

-- the records below an LSN
abbrev pub below : List Record → ℕ → List Record
below rs lsn = filter (λ r. nat_lt (own_lsn r) lsn) rs

-- a Commit that was answered is forced
abbrev pub IsForced : ℕ → Receipt → Type 0
IsForced forced_end (Stepped it) = it.step ≡ step.Commit → it.lsn < forced_end
IsForced forced_end other = Unit {0}

-- the record of a receipt stands in the log
pub record IsLogged (rs : List Record) (forced_end : ℕ) (receipt : Receipt) : Type 0 where
  pub there : HasAt rs (position receipt) (IsRecordOf receipt)
  pub forced : IsForced forced_end receipt

-- the slot had this number by the records below the log's end
pub record WasRead (rs : List Record) (end page slot number : ℕ) : Type 0 where
  pub within : end ≤ lsn_of (length rs)
  pub read : number ≡ number_in (below rs end) page slot

-- where the receipt is of a read, the log shows what it read
abbrev pub HoldsAsRead : List Record → Receipt → Type 0
HoldsAsRead rs (Read it) = WasRead rs it.end it.page it.slot it.number
HoldsAsRead rs other = Unit {0}

-- what the receipt says is so in a log
abbrev pub HoldsIn : List Record → ℕ → Receipt → Type 0
HoldsIn rs forced_end (Read it) = WasRead rs it.end it.page it.slot it.number
HoldsIn rs forced_end receipt = IsLogged rs forced_end receipt

-- a receipt may come behind another one of its session: it is not below that one, and above its
-- record
pub record ComesBehind (before receipt : Receipt) : Type 0 where
  pub not_below : position before ≤ position receipt
  pub above : is_read before ≡ false → position before < position receipt

-- and behind all of these
abbrev pub IsBehind : List Receipt → Receipt → Type 0
IsBehind before receipt = All (λ b. ComesBehind b receipt) before

-- the receipt stands in a log whose records below the forced end are forced; `before` are those of
-- its session before it
pub record Stands (rs : List Record) (forced_end : ℕ) (before : List Receipt)
    (receipt : Receipt) : Type 0 where
  pub holds : HoldsIn rs forced_end receipt
  pub behind : IsBehind before receipt

-- each receipt of a session is behind those before it
abbrev pub AreInOrder : List Receipt → Type 0
AreInOrder receipts = (i : ℕ) (d : Receipt) → i < length receipts
    → IsBehind (take i receipts) (slice_index_or receipts i d)

-- ---- LSNs that several receipts may have

-- the LSNs of the records that receipts speak of
abbrev pub written : List Receipt → List ℕ
written receipts = map position (filter (λ x. not (is_read x)) receipts)

-- how often an LSN is among these
abbrev pub times : ℕ → List ℕ → ℕ
times lsn lsns = count_by (λ x. x == lsn) lsns
