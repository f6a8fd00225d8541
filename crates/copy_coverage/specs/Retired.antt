-- What an engine leaves.
use Rattle.std.specs.Prelude.{ℕ, ◌≡◌, ◌+◌, ◌<◌, ◌≤◌, List, length, take, Option, IfSome, IsSome}
use Rattle.log_records.specs.declared.limits.TheConstants.{MAX_RECORDS}
use Rattle.log_records.specs.declared.record.Record.{Record}
use Rattle.log_records.specs.Log.{IsLog, Log, lsn_of}
use Rattle.log_rules.specs.Checkpoint.{IsCompleteCheckpoint}
use Rattle.log_rules.specs.Linked.{IsLinked}
use Rattle.log_rules.specs.Transactions.{owed}
use Rattle.log_store.specs.declared.master.Master.{Master}
use Rattle.copy_vault.specs.Copy.{CopyView}
use Rattle.copy_vault.specs.Vault.{CopyState, complete, state_of}
use Rattle.copy_coverage.specs.Copied.{AreRestorable}

-- its log, and the LSN below which each record was forced; its last complete checkpoint; and its
-- copies, in order of their ids
pub record RetiredView : Type 0 where
  pub log : Log
  pub forced_end : ℕ
  pub master : Option Master
  pub copies : List CopyState

-- there is room in a log to take back what is open at any place of it where a crash may end it: there
-- all forced records are before the place
abbrev pub HasRoomForUndo : List Record → ℕ → Type 0
HasRoomForUndo rs forced_end =
    (n : ℕ) → n ≤ length rs → forced_end ≤ lsn_of n → length (take n rs) + owed (take n rs) ≤ MAX_RECORDS

-- the master record names a complete checkpoint of the log whose end is forced
pub record NamesCheckpoint (rs : List Record) (forced_end : ℕ) (master : Master) : Type 0 where
  pub complete : IsCompleteCheckpoint rs master.begin master.end
  pub forced : master.end < forced_end

-- what holds of all that an engine leaves, whatever calls came and whatever its devices did
pub record IsRetired (it : RetiredView) : Type 0 where
  pub valid : IsLog it.log
  pub linked : IsLinked it.log.records
  pub room : HasRoomForUndo it.log.records it.forced_end
  pub forced : (k : ℕ) × (k ≤ length it.log.records) × (it.forced_end ≡ lsn_of k)
  pub master : IfSome it.master (NamesCheckpoint it.log.records it.forced_end)
  pub copies : AreRestorable it.log it.forced_end it.copies
  -- a copy begins where a checkpoint did, and is complete only once that one is
  pub noted : (id : ℕ) (copy : CopyView) → state_of it.copies id ≡ complete copy → IsSome it.master
