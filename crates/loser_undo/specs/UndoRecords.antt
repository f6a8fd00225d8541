-- The records of undo, one after another.
use Rattle.std.specs.Prelude.{ℕ, ◌≡◌, ◌+◌, ◌<◌, ◌≤◌, ◌++◌, List, [], ◌∷◌, length, slice_get}
use Rattle.std.specs.Prelude.{Option, Some, None, IsSome, IsSomeAnd, MatchOption}
use Rattle.log_records.specs.declared.limits.TheConstants.{MAX_RECORDS}
use Rattle.log_records.specs.declared.record.Record.{Record}
use Rattle.log_records.specs.Log.{IsLog, Log, with_next}
use Rattle.log_rules.specs.declared.pending_change.PendingChange.{PendingChange}
use Rattle.log_rules.specs.Table.{TxnEntry}
use Rattle.log_rules.specs.Transactions.{last_of, owed}
use Rattle.loser_undo.specs.Losers.{AreLosersOf}
use Rattle.loser_undo.specs.Recovery.{appended}
use Rattle.loser_undo.specs.Undo.{after_undo}

-- the transactions that are still open, and how many records the log would have by now
pub record UndoView : Type 0 where
  pub losers : List TxnEntry
  pub count : ℕ

-- each of those before this place has something pending
abbrev pub AreBusyBefore : List TxnEntry → ℕ → Type 0
AreBusyBefore losers place = (i : ℕ) (e : TxnEntry) → i < place → slice_get losers i ≡ Some e
    → IsSome (last_of e.pending)

-- each of them has something pending, and none of their last changes has a greater LSN
abbrev pub IsLastLost : List TxnEntry → PendingChange → Type 0
IsLastLost losers p = (i : ℕ) (e : TxnEntry) → slice_get losers i ≡ Some e
    → IsSomeAnd (last_of e.pending) (λ q. q.lsn ≤ p.lsn)

-- the next record is one of the transaction at this place: of the first with nothing pending, or
-- else of the one that has the last change of all
pub record IsNext (losers : List TxnEntry) (place : ℕ) : Type 0 where
  pub entry : TxnEntry
  pub there : slice_get losers place ≡ Some entry
  pub turn : MatchOption (last_of entry.pending) (AreBusyBefore losers place) (IsLastLost losers)

-- undo of a log has yielded these records, and goes on to those of `after_undo`
pub record HasYielded (log : Log) (behind : List Record) (undo : UndoView) : Type 0 where
  pub valid : IsLog (with_next log behind)
  pub losers : AreLosersOf (log.records ++ behind) undo.losers
  pub count : undo.count ≡ length (log.records ++ behind)
  pub room : length (log.records ++ behind) + owed (log.records ++ behind)
      ≤ length log.records + owed log.records
  pub fits : length log.records + owed log.records ≤ MAX_RECORDS
  pub goes_on : after_undo (log.records ++ behind) ≡ after_undo log.records

-- it yields one more, or it has yielded all
abbrev pub YieldsNext : Log → List Record → UndoView → Option Record → Type 0
YieldsNext log behind undo (Some r) = HasYielded log (behind ++ r ∷ []) undo
YieldsNext log behind undo None = behind ≡ appended log
