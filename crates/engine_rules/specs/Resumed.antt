-- An engine that goes on where an older one was lost.
use Rattle.std.specs.Prelude.{ℕ, ◌≡◌, List, [], length, Option}
use Rattle.std.specs.Option.{option_map_or}
use Rattle.log_records.specs.Image.{redo_all}
use Rattle.log_records.specs.Log.{Log, lsn_of, page_count}
use Rattle.log_rules.specs.Checkpoint.{IsCompleteCheckpoint, open_checkpoint}
use Rattle.log_rules.specs.Linked.{IsLinked}
use Rattle.log_rules.specs.Transactions.{open_in}
use Rattle.buffer_pool.specs.Pool.{stored_states, writing_of, written_of}
use Rattle.fuzzy_ckpt.specs.declared.point.Point.{Point}
use Rattle.copy_vault.specs.Copy.{CopyView}
use Rattle.copy_vault.specs.Vault.{CopyState, complete, reading, state_of}
use Rattle.copy_coverage.specs.Copied.{AreRestorable}
use Rattle.engine_rules.specs.EngineState.{EngineState}
use Rattle.engine_rules.specs.Gather.{none_left, pages_left}

-- an engine may go on from a log in which no transaction is open, with copies of which each is
-- complete or dropped and each complete one restores the log; a copy was begun only where the log
-- has a complete checkpoint
pub record MayResume (log : Log) (copies : List CopyState) : Type 0 where
  pub linked : IsLinked log.records
  pub closed : open_in log.records ≡ []
  pub restorable : AreRestorable log (lsn_of (length log.records)) copies
  pub none_read : (id : ℕ) (copy : CopyView) → ¬ (state_of copies id ≡ reading copy)
  pub noted : (id : ℕ) (copy : CopyView) → state_of copies id ≡ complete copy
      → (begin end : ℕ) × IsCompleteCheckpoint log.records begin end

-- what it is then: all of the log is forced, each page is stored as the log makes it, none is in
-- memory or being written, and of a checkpoint that is open the gather has ended
abbrev pub resumed_state : Log → ℕ → Option Point → List CopyState → EngineState
resumed_state log frames master copies =
    let states = stored_states (redo_all log.records (page_count log)) in
    record {
      pages = log.pages;
      log = log.records;
      forced_end = lsn_of (length log.records);
      master = master;
      frames = frames;
      resident = [];
      stored = redo_all log.records (page_count log);
      written = written_of states;
      writing = writing_of states;
      left = option_map_or (λ c. none_left) (open_checkpoint log.records) pages_left;
      copies = copies;
    }
