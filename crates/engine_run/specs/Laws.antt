-- What a settled run tells.
use Rattle.std.specs.Prelude.{ℕ, ◌≡◌, ◌<◌, true, false, List, length, slice_index_or}
use Rattle.log_records.specs.declared.record.Record.{Record}
use Rattle.copy_vault.specs.Copy.{CopyView}
use Rattle.copy_vault.specs.Vault.{CopyState, complete, dropped, state_of}
use Rattle.copy_coverage.specs.Copied.{Restores}
use Rattle.settlement.specs.declared.receipt.Receipt.{Receipt}
use Rattle.settlement.specs.Receipt.{HasAt, IsRecordOf, below, is_read, position}
use Rattle.engine_run.specs.declared.work.Work.{Work}
use Rattle.engine_run.specs.declared.work.Work.TheVariants.{Copied}

-- at each read of a session the records of its calls before are among those that were read
abbrev pub ReadsItsOwn : List Record → List Receipt → Type 0
ReadsItsOwn rs xs = (j k : ℕ) (d : Receipt) → j < k → k < length xs
    → is_read (slice_index_or xs j d) ≡ false → is_read (slice_index_or xs k d) ≡ true
    → HasAt (below rs (position (slice_index_or xs k d))) (position (slice_index_or xs j d))
    (IsRecordOf (slice_index_or xs j d))

-- a copy that was answered restores any kept log
abbrev pub IsRestoredBy : List CopyState → List Record → Work → Type 0
IsRestoredBy copies kept (Copied id kind taken) =
    (copy : CopyView) × (state_of copies id ≡ complete copy) × Restores copies copy kept
IsRestoredBy copies kept other = Unit {0}

-- a copy that was answered is none of these: the engine that has them has no copy of its id
abbrev pub IsNewTo : List CopyState → Work → Type 0
IsNewTo before (Copied id kind taken) = state_of before id ≡ dropped
IsNewTo before other = Unit {0}
