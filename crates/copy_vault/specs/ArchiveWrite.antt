-- What stands after an archive could not be written.
use Rattle.std.specs.Prelude.{ℕ, ◌≡◌, ◌<◌, List, ◌++◌, length, take, Option}
use Rattle.std.specs.Io.KnownBytes.{Appends, Keeps}
use Rattle.copy_vault.specs.declared.archive_fault.ArchiveWriteFault.{ArchiveWriteFault}
use Rattle.copy_vault.specs.declared.archive_fault.ArchiveWriteFault.TheVariants.{OutOfMemory}
use Rattle.copy_vault.specs.declared.archive_fault.ArchiveWriteFault.TheVariants.{WriteFault}

-- the first bytes were written, so many but not all, and nothing else; without memory, nothing
abbrev pub Leaves : List ℕ → Option (List ℕ) → Option (List ℕ) → ArchiveWriteFault → Type 0
Leaves bytes old new OutOfMemory = Keeps old new
Leaves bytes old new (WriteFault done) =
    (done < length bytes) × Appends old new (take done bytes)

-- the first of these bytes were written, and the others are left
pub record Sends (old new : Option (List ℕ)) (before left : List ℕ) : Type 0 where
  pub sent : List ℕ
  pub written : Appends old new sent
  pub all : sent ++ left ≡ before
