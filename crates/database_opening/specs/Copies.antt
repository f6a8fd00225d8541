-- The copies that are taken up.
use Rattle.std.specs.Prelude.{ℕ, ◌≡◌, ◌≢◌, ◌⊎◌, List, [], ◌∷◌, ◌++◌, ◌==◌, if◌then◌else◌, length}
use Rattle.std.specs.List.{fold}
use Rattle.copy_vault.specs.Added.{with_copy}
use Rattle.copy_vault.specs.declared.add_fault.AddFault.TheVariants as vault
use Rattle.copy_vault.specs.Copy.{CopyView}
use Rattle.engine_restart.specs.Added.{IsNotAdded, MayAdd}
use Rattle.engine_restart.specs.Restart.{RestartedView}
use Rattle.engine_restart.specs.declared.add_fault.AddCopyFault.{AddCopyFault}
use Rattle.engine_restart.specs.declared.add_fault.AddCopyFault.TheVariants as add
use Rattle.database_files.specs.Evidence.{IsWithin}
use Rattle.database_files.specs.declared.found_copies.CopyFile.{CopyFile}
use Rattle.database_files.specs.declared.found_copies.FoundCopy.{FoundCopy}
use Rattle.database_files.specs.declared.found_copies.FoundCopy.TheVariants.{Unread, Whole, Wrong}

-- this copy has the id of its file, the log and the copies so far allow it, and it is there, behind
-- them
pub record IsTakenUp (old new : RestartedView) (id : ℕ) (copy : CopyView) : Type 0 where
  pub of_id : copy.id ≡ id
  pub may : MayAdd old.log old.copies copy
  pub added : new.copies ≡ with_copy old.copies copy

-- memory ran out
abbrev pub IsOfMemory : AddCopyFault → Type 0
IsOfMemory add.OutOfMemory = Unit {0}
IsOfMemory add.OfOtherLog = ⊥
IsOfMemory (add.Unsound page) = ⊥
IsOfMemory (add.Refused vault.OutOfMemory) = Unit {0}
IsOfMemory (add.Refused other) = ⊥

-- why it is refused: it has another id, or the log or the copies so far do not allow it
pub data IsRefused (now : RestartedView) (id : ℕ) (copy : CopyView) : Type 0 where
  of_other_id : copy.id ≢ id → IsRefused now id copy
  not_added : (fault : AddCopyFault) → ¬ IsOfMemory fault
      → IsNotAdded now.log now.copies copy fault → IsRefused now id copy

-- it is taken up, or refused, and then the copies are as they were
abbrev pub IsJudged : ℕ → CopyView → RestartedView → RestartedView → Type 0
IsJudged id copy old new =
    IsTakenUp old new id copy ⊎ (IsRefused old id copy × (new.copies ≡ old.copies))

-- so is one that has nothing past this end of the log that was found; one that knows of more has
-- its file moved aside, and is not taken up
abbrev pub IsJudgedWithin : ℕ → ℕ → CopyView → RestartedView → RestartedView → Type 0
IsJudgedWithin end id copy old new = (IsWithin end copy × IsJudged id copy old new)
    ⊎ ((¬ IsWithin end copy) × (new.copies ≡ old.copies))

-- so is what stands under the name of a copy; only a copy is taken up
abbrev pub IsFileJudged : ℕ → ℕ → FoundCopy → RestartedView → RestartedView → Type 0
IsFileJudged end id (Whole copy) old new = IsJudgedWithin end id copy old new
IsFileJudged end id (Wrong why) old new = new.copies ≡ old.copies
IsFileJudged end id (Unread why) old new = new.copies ≡ old.copies

-- one after another, each is taken up or not, also behind one that was not; the log that was found
-- ended here, before anything was taken back
pub data TakesUp (end : ℕ) (begun : RestartedView) : List CopyFile → RestartedView → Type 0 where
  none_left : TakesUp end begun [] begun
  one_more : (files : List CopyFile) (file : CopyFile) (old new : RestartedView)
      → TakesUp end begun files old → new.log ≡ old.log → IsFileJudged end file.id file.found old new
      → TakesUp end begun (files ++ file ∷ []) new

-- the id of a copy that could not be read, and that of a copy behind it, which may stand on it, are
-- passed over, too: these ones are so far
abbrev pub ids_behind : List ℕ → ℕ → FoundCopy → List ℕ
ids_behind unread id (Whole copy) = if length unread == 0 then unread else unread ++ id ∷ []
ids_behind unread id (Wrong why) = unread
ids_behind unread id (Unread why) = unread ++ id ∷ []

abbrev pub ids_passed : List ℕ → CopyFile → List ℕ
ids_passed unread file = ids_behind unread file.id file.found

-- so it is with one copy after another
abbrev pub ids_unread : List CopyFile → List ℕ
ids_unread files = fold ids_passed [] files
