-- The checkpoints of a log that is there already.
use Rattle.std.specs.Prelude.{ℕ, ◌≡◌, ◌≤◌, List, Contains, Option, Some, None}
use Rattle.std.specs.Option.{option_map}
use Rattle.log_records.specs.declared.record.Record.{Record}
use Rattle.log_records.specs.declared.record.Record.TheVariants.{EndChkpt}
use Rattle.log_records.specs.Log.{Log, page_count_below}
use Rattle.log_rules.specs.Checkpoint.{Checkpoint, open_checkpoint, redo_point}
use Rattle.fuzzy_ckpt.specs.declared.log_checkpoints.LogCheckpoints.{LogCheckpoints}
use Rattle.fuzzy_ckpt.specs.declared.point.Point.{Point}
use Rattle.fuzzy_ckpt.specs.Ckpt.{CkptView, Phase, gathered, gathered_ckpt}

-- no checkpoint ends past an LSN in these records
abbrev pub EndBy : List Record → ℕ → Type 0
EndBy rs lsn = (end begin redo : ℕ) → Contains rs (EndChkpt end begin redo) → end ≤ lsn

-- the first records of a log have the end of this checkpoint, with its redo point, and the log has
-- this page count at its begin
pub record IsPointIn (log : Log) (rs : List Record) (point : Point) : Type 0 where
  pub ended : Contains rs (EndChkpt point.end point.begin point.redo)
  pub same_pages : point.pages ≡ page_count_below log point.begin

-- it is the last one that they complete; or they complete none
abbrev pub IsLastPoint : Log → List Record → Option Point → Type 0
IsLastPoint log rs (Some point) = IsPointIn log rs point × EndBy rs point.end
IsLastPoint log rs None = (end begin redo : ℕ) → ¬ Contains rs (EndChkpt end begin redo)

-- an open checkpoint, as one whose gather has ended
abbrev pub gathered_of : Log → Checkpoint → CkptView Phase
gathered_of log c = record {
  begin = c.begin;
  pages = page_count_below log c.begin;
  redo = redo_point c;
  phase = gathered;
}

-- these are the checkpoints of a log at its end
pub record AreCheckpointsOf (log : Log) (it : LogCheckpoints) : Type 0 where
  pub last : IsLastPoint log log.records it.last
  pub begun : option_map gathered_ckpt it.«open»
      ≡ option_map (gathered_of log) (open_checkpoint log.records)
