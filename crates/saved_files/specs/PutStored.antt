-- A file that is not in its place, or whose name may not last.
use Rattle.std.specs.Prelude.{ℕ, List, Option}
use Rattle.saved_files.specs.declared.put_stored.PutStoredFault.{PutStoredFault}
use Rattle.saved_files.specs.declared.put_stored.PutStoredFault.TheVariants.{Unput, Unstored}
use Rattle.saved_files.specs.FileFault.{IsOfNoByte}
use Rattle.saved_files.specs.Folder.{Entries, Puts}
use Rattle.saved_files.specs.PutFault.{IfUnmade, IsOfSource, LeavesPut, Writing, bytes_by}

-- what stands then: as where a file was not put in its place, or the new file
abbrev pub LeavesStored : {E : Type 0} → List ℕ → Writing → (E → Writing) → Option (List ℕ)
    → Option (List ℕ) → PutStoredFault E → Entries → Entries → Type 0
LeavesStored name gives leaves given_before given_up (Unput why) =
    LeavesPut name gives leaves given_before given_up why
LeavesStored name gives leaves given_before given_up (Unstored why) =
    Puts name (bytes_by gives)

-- the fault is of the source, and of nothing that it did; or no byte is told to have gone out
abbrev pub IsOfStored : {E : Type 0} → (E → Writing) → PutStoredFault E → Type 0
IsOfStored leaves (Unput why) = IsOfSource leaves why
IsOfStored leaves (Unstored why) = IsOfNoByte why

-- the names could not be stored
abbrev pub IsUnstored : {E : Type 0} → PutStoredFault E → Type 0
IsUnstored (Unput why) = ⊥
IsUnstored (Unstored why) = IsOfNoByte why

-- this holds where the file could not be made
abbrev pub IfNeverMade : {E : Type 0} → Type 0 → PutStoredFault E → Type 0
IfNeverMade fact (Unput why) = IfUnmade fact why
IfNeverMade fact (Unstored why) = Unit {0}
