-- How a redo ends.
use Rattle.std.specs.Prelude.{ℕ, ◌≡◌, ◌⊎◌, List, Option}
use Rattle.media_restore.specs.Until.{LeavesUntil, WritesUntil}
use Rattle.media_restore.specs.declared.until_fault.UntilFault.{UntilFault}
use Rattle.page_redo.specs.Stream.{Leaves, WritesVolume}
use Rattle.page_redo.specs.declared.stream_fault.StreamFault.{StreamFault}

-- a fault was told, with its status, and what it left stands there
pub record IsFaulty (fault : Type 0) (leaves : fault → Type 0) (status : ℕ) : Type 0 where
  pub two : status ≡ 2
  pub why : fault
  pub left : leaves why

-- the volume of the log went out, with the status 0; or a fault was told
abbrev pub IsRedo : Option (List ℕ) → Option (List ℕ) → Option (List ℕ) → ℕ → Type 0
IsRedo log old new status = (WritesVolume log old new × (status ≡ 0))
    ⊎ IsFaulty StreamFault (Leaves log old new) status

-- so it is of a log up to the record at an LSN
abbrev pub IsRedoUntil : Option (List ℕ) → ℕ → Option (List ℕ) → Option (List ℕ) → ℕ → Type 0
IsRedoUntil log until old new status = (WritesUntil log until old new × (status ≡ 0))
    ⊎ IsFaulty UntilFault (LeavesUntil log until old new) status
