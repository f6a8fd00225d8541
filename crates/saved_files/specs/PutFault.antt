-- A file that was not put in its place.
use Rattle.std.specs.Prelude.{ℕ, ◌≡◌, List, [], Option, Some}
use Rattle.saved_files.specs.declared.file_fault.FileFault.{FileFault}
use Rattle.saved_files.specs.declared.put_fault.PutFault.{PutFault}
use Rattle.saved_files.specs.declared.put_fault.PutFault.TheVariants.{Unmade, Unwritten, Unplaced}
use Rattle.saved_files.specs.FileFault.{IsOfNoByte, line_of}
use Rattle.saved_files.specs.Folder.{Entries, IsSame, KeepsBeside, PutsOrKeeps}

-- what a source of bytes makes of what its writer has
abbrev pub Writing : Type 1
Writing = Option (List ℕ) → Option (List ℕ) → Type 0

-- the fault is of the source, and of nothing that it did; or no byte is told to have gone out
abbrev pub IsOfSource : {E : Type 0} → (E → Writing) → PutFault E → Type 0
IsOfSource leaves (Unmade why) = IsOfNoByte why
IsOfSource leaves (Unwritten why) =
    (old : Option (List ℕ)) × ((new : Option (List ℕ)) × leaves why old new)
IsOfSource leaves (Unplaced why) = IsOfNoByte why

-- the bytes that a source gives
abbrev pub bytes_by : Writing → List ℕ → Type 0
bytes_by gives bytes = gives (Some []) (Some bytes)

-- what stands where a file was not put in its place, and what had gone out to it when it was given
-- up: nothing was made; or the source failed, and the name has what it had; or all went out, and
-- the name has the older file or the new one
abbrev pub LeavesPut : {E : Type 0} → List ℕ → Writing → (E → Writing) → Option (List ℕ)
    → Option (List ℕ) → PutFault E → Entries → Entries → Type 0
LeavesPut name gives leaves given_before given_up (Unmade why) old new =
    IsSame old new × (given_up ≡ given_before)
LeavesPut name gives leaves given_before given_up (Unwritten why) old new =
    (new name ≡ old name) × KeepsBeside name old new × leaves why (Some []) given_up
LeavesPut name gives leaves given_before given_up (Unplaced why) old new =
    PutsOrKeeps name (bytes_by gives) old new × gives (Some []) given_up

-- this holds where it could not be made
abbrev pub IfUnmade : {E : Type 0} → Type 0 → PutFault E → Type 0
IfUnmade fact (Unmade why) = fact
IfUnmade fact (Unwritten why) = Unit {0}
IfUnmade fact (Unplaced why) = Unit {0}

-- what is printed of it, where it is of a file of known bytes
abbrev pub line_of_put : PutFault FileFault → List ℕ
line_of_put (Unmade why) = line_of why
line_of_put (Unwritten why) = line_of why
line_of_put (Unplaced why) = line_of why
