-- The open transactions of a log, by the records from a checkpoint on.
use Rattle.std.specs.Prelude.{ℕ, ◌≡◌, ◌==◌, nat_lt, not, List, [], ◌∷◌, ◌++◌, map, filter}
use Rattle.std.specs.Prelude.{if◌then◌else◌}
use Rattle.log_records.specs.declared.record.Record.{Record}
use Rattle.log_records.specs.declared.record.Record.TheVariants.{Begin, Update, Comp, Commit, Abort}
use Rattle.log_records.specs.declared.record.Record.TheVariants.{End, BeginChkpt, ChkptPages}
use Rattle.log_records.specs.declared.record.Record.TheVariants.{ChkptTxns, EndChkpt, Extend}
use Rattle.log_records.specs.Log.{IsLog, Log}
use Rattle.log_rules.specs.Checkpoint.{IsCompleteCheckpoint}
use Rattle.log_rules.specs.Linked.{IsLinked}
use Rattle.log_rules.specs.Transactions.{last_lsn, open_in}
use Rattle.loser_undo.specs.declared.tail.OpenTxn.{OpenTxn}

-- ---- what is asked for

-- what stands in a linked log from where a complete checkpoint begins
pub record IsTailOf (log : Log) (tail : List Record) : Type 0 where
  pub valid : IsLog log
  pub linked : IsLinked log.records
  pub before : List Record
  pub behind : List Record
  pub begin : ℕ
  pub end : ℕ
  pub is : log.records ≡ before ++ tail
  pub begins : tail ≡ BeginChkpt begin ∷ behind
  pub complete : IsCompleteCheckpoint log.records begin end

-- a transaction, with the LSN of its last record
abbrev pub open_txn : List Record → ℕ → OpenTxn
open_txn rs t = record { txn = t; last = last_lsn rs t }

-- the open transactions, with the LSNs of their last records, in order of their numbers
abbrev pub open_txns : List Record → List OpenTxn
open_txns rs = map (open_txn rs) (open_in rs)

-- ---- what each record says

-- with what is known now of a transaction, in its place by its number
abbrev pub with_txn : OpenTxn → List OpenTxn → List OpenTxn
with_txn x [] = x ∷ []
with_txn x (y ∷ ys) =
    if nat_lt y.txn x.txn then y ∷ with_txn x ys
    else if y.txn == x.txn then x ∷ ys
    else x ∷ y ∷ ys

abbrev pub without_txn : ℕ → List OpenTxn → List OpenTxn
without_txn t known = filter (λ o. not (o.txn == t)) known

-- what is known after one more record: its transaction is open and this is its last record, or it
-- has ended. A checkpoint's entry says what held where it stands
abbrev pub told : List OpenTxn → Record → List OpenTxn
told known (Begin lsn t) = with_txn (record { txn = t; last = lsn }) known
told known (Update lsn t prev page slot change) = with_txn (record { txn = t; last = lsn }) known
told known (Comp lsn t prev undo page slot change) = with_txn (record { txn = t; last = lsn }) known
told known (Abort lsn t prev) = with_txn (record { txn = t; last = lsn }) known
told known (ChkptTxns lsn begin t state last undo) =
    with_txn (record { txn = t; last = last }) known
told known (Commit lsn t prev) = without_txn t known
told known (End lsn t prev) = without_txn t known
told known (BeginChkpt lsn) = known
told known (ChkptPages lsn begin pages) = known
told known (EndChkpt lsn begin redo) = known
told known (Extend lsn pages) = known
