-- How a file that was written beside its name comes to its name.
use Rattle.std.specs.Prelude.{ℕ, ◌≡◌, ◌≢◌, ◌⊎◌, List, Option, Some, Result, Ok, Err}
use Rattle.saved_files.specs.declared.put_fault.PutFault.{PutFault}
use Rattle.saved_files.specs.declared.put_fault.PutFault.TheVariants.{Unmade, Unwritten, Unplaced}
use Rattle.saved_files.specs.FileFault.{IsOfNoByte}
use Rattle.saved_files.specs.Folder.{Entries, HasNewOrOld, IsWhole, KeepsOthers, LeavesOnly}
use Rattle.saved_files.specs.Folder.{Remains, RenamesOrKeeps, absent, stored}

-- every name but these two keeps what stood under it
abbrev pub KeepsApart : List ℕ → List ℕ → Entries → Entries → Type 0
KeepsApart beside name old new = (n : List ℕ) → n ≢ beside → n ≢ name → new n ≡ old n

-- the file has its name, with all that went out to it, and no longer the one beside it
pub record IsPlaced (beside name : List ℕ) (contents : Option (List ℕ)) (old new : Entries)
    : Type 0 where
  pub bytes : List ℕ
  pub whole : contents ≡ Some bytes
  pub put : new name ≡ stored bytes
  pub left : beside ≢ name → new beside ≡ absent
  pub others : KeepsApart beside name old new

-- the name has the older file, or the new one with all that went out to it
pub record IsUnplaced (beside name : List ℕ) (contents : Option (List ℕ)) (old new : Entries)
    : Type 0 where
  pub either : beside ≢ name → HasNewOrOld name (λ bytes. contents ≡ Some bytes) old new
  pub others : KeepsApart beside name old new

-- it was renamed or all is as before, and then it was given up
pub record IsRenamedOrGone (beside name : List ℕ) (old new : Entries) : Type 0 where
  pub mid : Entries
  pub either : RenamesOrKeeps beside name old mid
  pub gone : KeepsOthers beside mid new

-- what stands where it was not put in its place: it was given up, and was perhaps renamed before
abbrev pub LeavesWritten : {E : Type 0} → List ℕ → List ℕ → Option (List ℕ) → PutFault E
    → Entries → Entries → Type 0
LeavesWritten beside name contents (Unmade why) = λ old new. ⊥
LeavesWritten beside name contents (Unwritten why) = KeepsOthers beside
LeavesWritten beside name contents (Unplaced why) = IsUnplaced beside name contents

-- why it was not: it was not written to its end; or it was, and no byte is told to have gone out
abbrev pub IsWhy : {E : Type 0} → Result (Unit {0}) E → PutFault E → Type 0
IsWhy done (Unmade why) = ⊥
IsWhy done (Unwritten why) = done ≡ Err why
IsWhy done (Unplaced why) = (done ≡ Ok tt) × IsOfNoByte why

-- what a name may have while a file comes to its name: anything, if it is the one beside it; else
-- what it had, or the file, whole, if it is its name
abbrev pub MayTake : List ℕ → List ℕ → (List ℕ → Type 0) → Entries → Remains
MayTake beside name fits old n e =
    (n ≡ beside) ⊎ ((e ≡ old n) ⊎ ((n ≡ name) × IsWhole fits e))

-- what a crash may leave then
abbrev pub LeavesTaken : List ℕ → List ℕ → (List ℕ → Type 0) → Remains → Remains
    → Entries → Entries → Type 0
LeavesTaken beside name fits before after old new =
    LeavesOnly (MayTake beside name fits old) before after
