-- The file that has the volume's name.
use Rattle.std.proofs.Common.{◌≡◌, ◌≤◌, ◌<◌, ◌⊎◌, ◌∙◌, ℕ, List, ap, arith, get_or, length, length-take, subst, sym, take}
use Rattle.std.specs.Prelude.{codes, IfSome, None, Option, Some}
use Rattle.std.proofs.lemmas.List.{get_or-take}
use Rattle.saved_files.specs.Folder.{Entries, FolderEntry, absent, stored, unsynced}
use Rattle.database_files.specs.DatabaseFolder.{BeginsAsVolume, BeginsIn, HasNoOtherVolume, IsVolume}
use Rattle.database_files.specs.declared.database_folder.Standing.TheVariants.{File, Absent}

first_of : (bytes all : List ℕ) (len : ℕ) → length bytes ≡ 8 → len ≤ length bytes → take len bytes ≡ take (length bytes) all
    → BeginsAsVolume bytes → BeginsAsVolume all
first_of bytes all len eight few same begins = λ k low there.
    let count : length (take len bytes) ≡ length (take (length bytes) all) = ap (length {A = ℕ}) same in
    let within : k < len = omega (arith, count, length-take len bytes, length-take (length bytes) all) in
    let one : get_or bytes k 0 ≡ get_or all k 0 =
    sym (get_or-take len bytes k 0 within) ∙ ap (λ (it : List ℕ). get_or it k 0) same
    ∙ get_or-take (length bytes) all k 0 (omega arith) in
    subst (λ (b : ℕ). (b ≡ 0) ⊎ ((k ≡ 4) × (b ≡ 1))) one (begins k low (omega arith))

-- a file whose first bytes are those of a volume
volume_at : (there : FolderEntry) (bytes : List ℕ) (len : ℕ) → length bytes ≡ 8 → BeginsIn (File len) bytes there
    → BeginsAsVolume bytes → IsVolume there
volume_at absent bytes len eight begins is = tt
volume_at unsynced bytes len eight begins is = tt
volume_at (stored all) bytes len eight begins is = first_of bytes all len eight begins.0 begins.1 is

pub volume_there : (entries : Option Entries) (bytes : List ℕ) (len : ℕ) → length bytes ≡ 8
    → IfSome entries (λ there. BeginsIn (File len) bytes (there (codes "volume"))) → BeginsAsVolume bytes
    → HasNoOtherVolume entries
volume_there None bytes len eight begins is = tt
volume_there (Some there) bytes len eight begins is = volume_at (there (codes "volume")) bytes len eight begins is

-- or there is none
pub no_volume : (entries : Option Entries) (bytes : List ℕ)
    → IfSome entries (λ there. BeginsIn Absent bytes (there (codes "volume"))) → HasNoOtherVolume entries
no_volume None bytes none = tt
no_volume (Some there) bytes none = subst IsVolume (sym none) tt
