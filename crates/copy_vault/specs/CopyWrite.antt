-- The archive of a copy that a vault has.
use Rattle.std.specs.Prelude.{ℕ, ◌≡◌, List, Option}
use Rattle.std.specs.Io.KnownBytes.{Appends, Keeps}
use Rattle.copy_vault.specs.declared.copy_write_fault.CopyWriteFault.{CopyWriteFault}
use Rattle.copy_vault.specs.declared.copy_write_fault.CopyWriteFault.TheVariants.{Archive, Refused}
use Rattle.copy_vault.specs.Archive.{archive_bytes}
use Rattle.copy_vault.specs.ArchiveWrite.{Leaves}
use Rattle.copy_vault.specs.Copy.{CopyView}
use Rattle.copy_vault.specs.Vault.{CopyState, OpenRefuses, complete, complete_refusal, state_of}

-- the archive of the complete copy of this id was written
pub record WritesCopy (copies : List CopyState) (id : ℕ) (old new : Option (List ℕ)) : Type 0 where
  pub copy : CopyView
  pub is_complete : state_of copies id ≡ complete copy
  pub written : Appends old new (archive_bytes copy)

-- nothing was written where the copy was refused, and else the first bytes of its archive at most
abbrev pub LeavesCopy : List CopyState → ℕ → Option (List ℕ) → Option (List ℕ) → CopyWriteFault
    → Type 0
LeavesCopy copies id old new (Refused fault) =
    OpenRefuses (complete_refusal (state_of copies id)) fault × Keeps old new
LeavesCopy copies id old new (Archive fault) =
    (copy : CopyView) × (state_of copies id ≡ complete copy)
    × Leaves (archive_bytes copy) old new fault
