-- A checkpoint of the log, by what was answered of it.
use Rattle.std.specs.Prelude.{ℕ, ◌≡◌, ◌<◌, List}
use Rattle.log_records.specs.declared.record.Record.{Record}
use Rattle.log_records.specs.declared.record.Record.TheVariants as log
use Rattle.log_records.specs.Log.{Log, page_count_below}
use Rattle.settlement.specs.Receipt.{HasAt}

abbrev pub IsBegin : Record → Type 0
IsBegin (log.BeginChkpt lsn) = Unit {0}
IsBegin (log.Begin lsn txn) = ⊥
IsBegin (log.Update lsn txn prev page slot change) = ⊥
IsBegin (log.Comp lsn txn prev undo_next page slot change) = ⊥
IsBegin (log.Commit lsn txn prev) = ⊥
IsBegin (log.Abort lsn txn prev) = ⊥
IsBegin (log.End lsn txn prev) = ⊥
IsBegin (log.ChkptPages lsn begin pages) = ⊥
IsBegin (log.ChkptTxns lsn begin txn state last undo_next) = ⊥
IsBegin (log.EndChkpt lsn begin redo) = ⊥
IsBegin (log.Extend lsn pages) = ⊥

-- the EndChkpt of the checkpoint that began at this LSN, with this redo point
abbrev pub IsEndOf : ℕ → ℕ → Record → Type 0
IsEndOf begin redo (log.EndChkpt lsn b r) = (b ≡ begin) × (r ≡ redo)
IsEndOf begin redo (log.Begin lsn txn) = ⊥
IsEndOf begin redo (log.Update lsn txn prev page slot change) = ⊥
IsEndOf begin redo (log.Comp lsn txn prev undo_next page slot change) = ⊥
IsEndOf begin redo (log.Commit lsn txn prev) = ⊥
IsEndOf begin redo (log.Abort lsn txn prev) = ⊥
IsEndOf begin redo (log.End lsn txn prev) = ⊥
IsEndOf begin redo (log.BeginChkpt lsn) = ⊥
IsEndOf begin redo (log.ChkptPages lsn b pages) = ⊥
IsEndOf begin redo (log.ChkptTxns lsn b txn state last undo_next) = ⊥
IsEndOf begin redo (log.Extend lsn pages) = ⊥

-- the log has such a record at this LSN, and it is forced
pub record HasForced (rs : List Record) (forced_end lsn : ℕ) (IsSuch : Record → Type 0)
    : Type 0 where
  pub there : HasAt rs lsn IsSuch
  pub forced : lsn < forced_end

-- the log has the BeginChkpt and the EndChkpt of this checkpoint, with its redo point, and both are
-- forced; and the volume had so many pages at the BeginChkpt
pub record HasCheckpoint (log : Log) (forced_end begin end redo pages : ℕ) : Type 0 where
  pub begun : HasForced log.records forced_end begin IsBegin
  pub ended : HasForced log.records forced_end end (IsEndOf begin redo)
  pub same_pages : pages ≡ page_count_below log begin
