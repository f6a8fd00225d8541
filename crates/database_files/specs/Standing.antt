-- Names of files that are not whole, and what stays under the others.
use Rattle.std.specs.Prelude.{ℕ, ◌≡◌, ◌≢◌, ◌⊎◌, codes, List, ◌++◌}
use Rattle.std.specs.Io.{StartsWith}
use Rattle.saved_files.specs.Folder.{Entries, absent}
use Rattle.saved_files.specs.Saved.{name_of}
use Rattle.saved_files.specs.declared.saved_name.SavedName.TheVariants as saved
use Rattle.std.specs.List.{Contains}

-- ---- the steps of a backup

-- a file has such a name as long as it is not whole
abbrev pub IsUnfinished : List ℕ → Type 0
IsUnfinished n =
    (whole : List ℕ) × (rest : List ℕ) × (n ≡ whole ++ (codes ".unfinished-" ++ rest))

-- only what is unfinished is removed
abbrev pub KeepsFinished : Entries → Entries → Type 0
KeepsFinished old new = (n : List ℕ) → ¬ IsUnfinished n → new n ≡ old n

-- each name but these keeps what stands under it
abbrev pub KeepsAllBut : List (List ℕ) → Entries → Entries → Type 0
KeepsAllBut names old new = (n : List ℕ) → ¬ Contains names n → new n ≡ old n

-- ---- what an opening leaves

-- the name is of none of the files that an opening makes anew or removes: the log, the volume, the
-- note of a closing, and what is unfinished
pub record IsLeftAlone (n : List ℕ) : Type 0 where
  pub log : n ≢ codes "log"
  pub volume : n ≢ codes "volume"
  pub closed : n ≢ codes "closed"
  pub whole : ¬ IsUnfinished n

-- each file of such a name stays as it is
abbrev pub KeepsFiles : Entries → Entries → Type 0
KeepsFiles old new = (n : List ℕ) → IsLeftAlone n → old n ≢ absent → new n ≡ old n

-- each name but this one keeps what stood under it, unless it is one of an unfinished file
abbrev pub KeepsBut : List ℕ → Entries → Entries → Type 0
KeepsBut name old new = (n : List ℕ) → n ≢ name → ¬ IsUnfinished n → new n ≡ old n

-- so does each name, but where nothing stood a copy may stand
abbrev pub AddsCopies : Entries → Entries → Type 0
AddsCopies old new = (n : List ℕ) → ¬ IsUnfinished n
    → (new n ≡ old n) ⊎ ((old n ≡ absent) × StartsWith n (codes "copy-"))

-- so does each name but those of the log and the master record
abbrev pub AddsFiles : Entries → Entries → Type 0
AddsFiles old new = (n : List ℕ) → n ≢ name_of saved.Log → n ≢ name_of saved.Master
    → ¬ IsUnfinished n → (new n ≡ old n) ⊎ ((old n ≡ absent) × StartsWith n (codes "copy-"))
