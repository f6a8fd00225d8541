-- The files of a run: how they are called, and what is saved.
use Rattle.std.specs.Prelude.{ℕ, ◌≡◌, ◌≢◌, ◌+◌, ◌<◌, ◌⊎◌, List, [], ◌++◌, codes, decimal, Option}
use Rattle.std.specs.Prelude.{Some}
use Rattle.std.specs.Option.{option_map}
use Rattle.log_records.specs.Log.{log_bytes}
use Rattle.log_store.specs.Master.{master_bytes}
use Rattle.copy_vault.specs.Archive.{archive_bytes}
use Rattle.copy_vault.specs.Vault.{complete_of, state_of}
use Rattle.copy_coverage.specs.Retired.{RetiredView}
use Rattle.saved_files.specs.declared.saved_name.SavedName.{SavedName}
use Rattle.saved_files.specs.declared.saved_name.SavedName.TheVariants.{Log, Master, Copy}
use Rattle.saved_files.specs.declared.save_fault.SaveFault.{SaveFault}
use Rattle.saved_files.specs.declared.save_fault.SaveFault.TheVariants.{Unclaimed, Unsaved}
use Rattle.saved_files.specs.declared.save_fault.SaveFault.TheVariants.{Unstored}
use Rattle.saved_files.specs.declared.file_fault.FileFault.{FileFault}
use Rattle.saved_files.specs.declared.put_fault.PutFault.{PutFault}
use Rattle.saved_files.specs.declared.put_fault.PutFault.TheVariants.{Unmade, Unwritten, Unplaced}
use Rattle.saved_files.specs.FileFault.{IsOfNoByte, Leaves, line_of}
use Rattle.saved_files.specs.Folder.{Entries, IsBeside, IsSame, absent, stored}
use Rattle.saved_files.specs.PutFault.{IsOfSource, LeavesPut, Writing, line_of_put}

-- what a file is called
abbrev pub name_of : SavedName → List ℕ
name_of Log = codes "log"
name_of Master = codes "master"
name_of (Copy id) = codes "copy-" ++ decimal id

-- the files are saved in this order
abbrev pub place_of : SavedName → ℕ
place_of Log = 0
place_of Master = 1
place_of (Copy id) = 2 + id

-- the bytes of each file that is to be saved
abbrev pub Parts : Type 0
Parts = SavedName → Option (List ℕ)

-- those of what an engine leaves: the log, the master record if there is one, and each complete
-- copy under its id
abbrev pub parts_of : RetiredView → Parts
parts_of it Log = Some (log_bytes it.log)
parts_of it Master = option_map master_bytes it.master
parts_of it (Copy id) = option_map archive_bytes (complete_of (state_of it.copies id))

-- no file that is saved is called so
abbrev pub IsNone : Parts → List ℕ → Type 0
IsNone parts n =
    (name : SavedName) (bytes : List ℕ) → parts name ≡ Some bytes → n ≢ name_of name

-- none of those before this place is
abbrev pub IsNoneBefore : Parts → ℕ → List ℕ → Type 0
IsNoneBefore parts end n = (name : SavedName) (bytes : List ℕ)
    → parts name ≡ Some bytes → place_of name < end → n ≢ name_of name

-- each file before this place is saved, and every other name keeps what stood under it
pub record AreSavedBefore (parts : Parts) (end : ℕ) (old new : Entries) : Type 0 where
  pub saved : (name : SavedName) (bytes : List ℕ) → parts name ≡ Some bytes → place_of name < end
      → new (name_of name) ≡ stored bytes
  pub others : (n : List ℕ) → IsNoneBefore parts end n → new n ≡ old n

-- each file is saved, and every other name keeps what stood under it: no unfinished file is left
pub record AreSaved (parts : Parts) (old new : Entries) : Type 0 where
  pub saved : (name : SavedName) (bytes : List ℕ) → parts name ≡ Some bytes
      → new (name_of name) ≡ stored bytes
  pub others : (n : List ℕ) → IsNone parts n → new n ≡ old n

-- what had gone out of these bytes when their file was given up: without a file, nothing was given
-- up; as much as the fault tells; or all of it
abbrev pub WentOut : List ℕ → Option (List ℕ) → Option (List ℕ) → PutFault FileFault → Type 0
WentOut bytes given_before given_up (Unmade why) = given_up ≡ given_before
WentOut bytes given_before given_up (Unwritten why) = Leaves bytes (Some []) given_up why
WentOut bytes given_before given_up (Unplaced why) = given_up ≡ Some bytes

-- the files before this one are saved; under its name stands what stood there, or the new file,
-- whole; and every other name keeps what stood under it, but for an unfinished file where nothing
-- stood. Of that one, just so much had gone out when it was given up
pub record LeavesFrom (parts : Parts) (at : SavedName) (why : PutFault FileFault)
    (given_before given_up : Option (List ℕ)) (old new : Entries) : Type 0 where
  pub bytes : List ℕ
  pub asked : parts at ≡ Some bytes
  pub before : (name : SavedName) (bytes : List ℕ) → parts name ≡ Some bytes
      → place_of name < place_of at → new (name_of name) ≡ stored bytes
  pub either : (new (name_of at) ≡ stored bytes) ⊎ (new (name_of at) ≡ old (name_of at))
  pub others : (n : List ℕ) → n ≢ name_of at → IsNoneBefore parts (place_of at) n
      → (new n ≡ old n) ⊎ ((old n ≡ absent) × IsBeside (name_of at) n)
  pub went_out : WentOut bytes given_before given_up why

-- what stands where the files are not all saved, or their names may not outlast the system's end
abbrev pub LeavesSaved : Parts → SaveFault → Option (List ℕ) → Option (List ℕ)
    → Entries → Entries → Type 0
LeavesSaved parts (Unclaimed why) given_before given_up old new = IsSame old new
LeavesSaved parts (Unsaved file why) given_before given_up old new =
    LeavesFrom parts file why given_before given_up old new
LeavesSaved parts (Unstored why) given_before given_up old new = AreSaved parts old new

-- the fault befell a file that is to be saved, and if bytes of it went out, just so many and not
-- all; else no byte is told to have gone out
abbrev pub IsOfPart : Parts → SaveFault → Type 0
IsOfPart parts (Unclaimed why) = IsOfNoByte why
IsOfPart parts (Unsaved file why) = (bytes : List ℕ) × (parts file ≡ Some bytes)
    × IsOfSource (λ fault a b. Leaves bytes a b fault) why
IsOfPart parts (Unstored why) = IsOfNoByte why

-- what stands where one file is not saved
abbrev pub LeavesFile : SavedName → Writing → (FileFault → Writing) → SaveFault
    → Option (List ℕ) → Option (List ℕ) → Entries → Entries → Type 0
LeavesFile file gives leaves (Unsaved name why) given_before given_up old new =
    (name ≡ file) × LeavesPut (name_of file) gives leaves given_before given_up why old new
LeavesFile file gives leaves other given_before given_up old new = ⊥

-- the fault is of this file and its source
abbrev pub IsOfFile : SavedName → (FileFault → Writing) → SaveFault → Type 0
IsOfFile file leaves (Unsaved name why) = (name ≡ file) × IsOfSource leaves why
IsOfFile file leaves other = ⊥

-- what is printed of a fault
abbrev pub line_of_save : SaveFault → List ℕ
line_of_save (Unclaimed why) = line_of why
line_of_save (Unsaved file why) = line_of_put why
line_of_save (Unstored why) = line_of why
