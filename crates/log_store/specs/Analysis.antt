-- What reading a log answers.
use Rattle.std.specs.Prelude.{◌≡◌, length}
use Rattle.std.specs.Option.{option_map}
use Rattle.log_records.specs.Image.{redo_all}
use Rattle.log_records.specs.Log.{Log, counts_of, page_count}
use Rattle.log_rules.specs.Checkpoint.{Checkpoint, completed_in, open_checkpoint, redo_point}
use Rattle.log_rules.specs.Table.{table_of}
use Rattle.log_store.specs.declared.analysis.Analysis.{Analysis}
use Rattle.log_store.specs.declared.checkpoints.OpenCkpt.{OpenCkpt}

-- the begin of an open checkpoint, and its redo point so far
abbrev pub begun_of : Checkpoint → OpenCkpt
begun_of c = record { begin = c.begin; redo = redo_point c }

-- it is what this log says
pub record IsAnalysisOf (log : Log) (it : Analysis) : Type 0 where
  pub records : it.records ≡ length log.records
  pub txns : it.txns.table ≡ table_of log.records
  pub complete : it.complete.items ≡ completed_in log.records
  pub begun : it.begun ≡ option_map begun_of (open_checkpoint log.records)
  pub counts : it.counts ≡ counts_of log
  pub pages : it.pages.items ≡ redo_all log.records (page_count log)
