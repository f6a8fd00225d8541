-- The volume that stands where a new one is made.
use Rattle.std.specs.Prelude.{ℕ, ◌≡◌, ◌≢◌, ◌<◌, ◌≤◌, ◌%◌, Bool, true, codes, IfSome, List, length, Option, Some}
use Rattle.std.specs.Prelude.{slice_index_or}
use Rattle.std.specs.Prelude.{None}
use Rattle.database_files.specs.LeftOut.{IsKept, WasKept}
use Rattle.saved_files.specs.Folder.{Entries, FolderEntry, stored}
use Rattle.database_opening.specs.declared.first_line.FirstLine.{FirstLine}
use Rattle.database_opening.specs.declared.first_line.FirstLine.TheVariants.{New}

-- the byte at this place of a volume is not what a new volume has there: a new page has its number
-- and that of the format, and then zeros alone
pub record IsChangeAt (bytes : List ℕ) (k : ℕ) : Type 0 where
  pub within : k < length bytes
  pub behind : 8 ≤ k % 512
  pub other : slice_index_or bytes k 0 ≢ 0

-- a volume has a change
abbrev pub HasChange : List ℕ → Type 0
HasChange bytes = (k : ℕ) × IsChangeAt bytes k

-- of a volume that stands there with a change all bytes are at hand, and only where what is left is
-- to be opened
abbrev pub IsOldVolumeAt : Bool → FolderEntry → Option (List ℕ) → Type 0
IsOldVolumeAt is_salvage there held = (bytes : List ℕ) → there ≡ stored bytes → HasChange bytes
    → (is_salvage ≡ true) × (held ≡ Some bytes)

-- so it is as far as it is known what stands there
abbrev pub IsOldVolumeIn : Bool → Option Entries → Option (List ℕ) → Type 0
IsOldVolumeIn is_salvage entries held =
    IfSome entries (λ there. IsOldVolumeAt is_salvage (there (codes "volume")) held)

-- bytes that are at hand get a file of their own, under a name that nothing had
abbrev pub IsHeldAside : Option (List ℕ) → Option Entries → Option Entries → Type 0
IsHeldAside None old new = new ≡ old
IsHeldAside (Some bytes) old new = IsKept old bytes new

-- a volume that stood there with a change has a file of its own, and what is left was to be opened
abbrev pub KeepsOldVolume : Bool → Option Entries → Option Entries → Type 0
KeepsOldVolume is_salvage old new = IfSome old (λ there. (bytes : List ℕ)
    → there (codes "volume") ≡ stored bytes → HasChange bytes
    → (is_salvage ≡ true) × WasKept bytes new)

-- so it is where a database is a new one
abbrev pub KeepsOldVolumeOfNew : FirstLine → Bool → Option Entries → Option Entries → Type 0
KeepsOldVolumeOfNew first is_salvage old new =
    (pages : ℕ) → first ≡ New pages → KeepsOldVolume is_salvage old new

-- each name but those of the log and the volume keeps what stands under it
abbrev pub KeepsButLogAndVolume : Entries → Entries → Type 0
KeepsButLogAndVolume old new =
    (n : List ℕ) → n ≢ codes "log" → n ≢ codes "volume" → new n ≡ old n
