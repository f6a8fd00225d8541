-- What a restore keeps of a log.
use Rattle.std.specs.Prelude.{ℕ, List, length}
use Rattle.log_records.specs.Log.{Log, counts_of}
use Rattle.log_rules.specs.declared.ckpt_point.CkptPoint.{CkptPoint}
use Rattle.log_rules.specs.Checkpoint.{completed_in}
use Rattle.page_core.specs.PageCounts.{PageCounts}
use Rattle.page_redo.specs.Placed.{Placed, placed_in}

-- the page counts of the volume, how many records the log has, the changes that redo may make, and
-- the checkpoints that were completed
pub record Kept : Type 0 where
  pub counts : PageCounts
  pub count : ℕ
  pub changes : List Placed
  pub checkpoints : List CkptPoint

-- what is kept of a log
abbrev pub kept_of : Log → Kept
kept_of log = record {
  counts = counts_of log;
  count = length log.records;
  changes = placed_in log.records;
  checkpoints = completed_in log.records;
}
