-- The archive of a copy that a shared engine has.
use Rattle.std.specs.Prelude.{ℕ, ◌≡◌, List, Option}
use Rattle.std.specs.Io.KnownBytes.{Appends, Keeps}
use Rattle.copy_vault.specs.declared.copy_write_fault.CopyWriteFault.{CopyWriteFault}
use Rattle.copy_vault.specs.declared.copy_write_fault.CopyWriteFault.TheVariants.{Archive, Refused}
use Rattle.copy_vault.specs.declared.fault.CopyFault.{CopyFault}
use Rattle.copy_vault.specs.Archive.{archive_bytes}
use Rattle.copy_vault.specs.ArchiveWrite.{Leaves}
use Rattle.copy_vault.specs.Copy.{CopyView, IsComplete}
use Rattle.copy_vault.specs.Vault.{OpenRefuses, complete_refusal, state_of}
use Rattle.engine_rules.specs.EngineState.{EngineState, IsFit}

-- a copy has this id, and of each page it is decided
pub record IsCompleteOf (id : ℕ) (copy : CopyView) : Type 0 where
  pub id_is : copy.id ≡ id
  pub complete : IsComplete copy.kind copy.pages

-- the archive of a complete copy of this id was written, and nothing else
pub record WritesCopyOf (id : ℕ) (old new : Option (List ℕ)) : Type 0 where
  pub copy : CopyView
  pub is : IsCompleteOf id copy
  pub written : Appends old new (archive_bytes copy)

-- an engine that is fit refuses to lend the copy of this id
pub record RefusesCopy (id : ℕ) (fault : CopyFault) : Type 0 where
  pub engine : EngineState
  pub fit : IsFit engine
  pub refuses : OpenRefuses (complete_refusal (state_of engine.copies id)) fault

-- nothing was written where the copy was refused, and else the first bytes of its archive at most
abbrev pub LeavesCopyOf : ℕ → Option (List ℕ) → Option (List ℕ) → CopyWriteFault → Type 0
LeavesCopyOf id old new (Refused fault) = RefusesCopy id fault × Keeps old new
LeavesCopyOf id old new (Archive fault) =
    (copy : CopyView) × IsCompleteOf id copy × Leaves (archive_bytes copy) old new fault
