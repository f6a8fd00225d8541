-- How an opening keeps the files of a folder.
use Rattle.std.proofs.Common.{◌≡◌, ◌≢◌, ◌∙◌, ℕ, List, ap, inl, inr, refl, sym}
use Rattle.std.specs.Prelude.{codes, Err, IfErr, None, Ok, OnOk, Option, Result, Some}
use Rattle.saved_files.specs.Folder.{Changes, Entries, IsSame, KeepsBeside, KeepsOthers, Puts, absent}
use Rattle.saved_files.specs.PutFault.{LeavesPut, Writing, bytes_by}
use Rattle.saved_files.specs.declared.put_fault.PutFault.{PutFault}
use Rattle.saved_files.specs.declared.put_fault.PutFault.TheVariants.{Unmade, Unplaced, Unwritten}
use Rattle.database_files.specs.MovedAside.{IsFree}
use Rattle.database_files.specs.Standing.{KeepsFiles, KeepsFinished}
use Rattle.database_files.proofs.FolderChanges.{given, so, then}

-- ---- files that keep their names

pub keeps_same : (a b : Option Entries) → Changes IsSame a b → Changes KeepsFiles a b
keeps_same a b = so a b (λ old new same n alone had. same n)

pub keeps_here : (a : Option Entries) → Changes KeepsFiles a a
keeps_here None = tt
keeps_here (Some old) = λ n alone had. refl

pub keeps_finished : (a b : Option Entries) → Changes KeepsFinished a b → Changes KeepsFiles a b
keeps_finished a b = so a b (λ old new kept n alone had. kept n alone.whole)

-- the log, the volume or the note of a closing is changed
pub keeps_log : (a b : Option Entries) → Changes (KeepsOthers (codes "log")) a b → Changes KeepsFiles a b
keeps_log a b = so a b (λ old new kept n alone had. kept n alone.log)

pub keeps_volume : (a b : Option Entries) → Changes (KeepsOthers (codes "volume")) a b → Changes KeepsFiles a b
keeps_volume a b = so a b (λ old new kept n alone had. kept n alone.volume)

pub keeps_closed : (a b : Option Entries) → Changes (KeepsOthers (codes "closed")) a b → Changes KeepsFiles a b
keeps_closed a b = so a b (λ old new kept n alone had. kept n alone.closed)

still_there : (old mid : Entries) (n : List ℕ) → mid n ≡ old n → old n ≢ absent → mid n ≢ absent
still_there old mid n same had = λ none. had (sym same ∙ none)

pub keeps_more : (a b c : Option Entries) → Changes KeepsFiles a b → Changes KeepsFiles b c → Changes KeepsFiles a c
keeps_more a b c = then a b c (λ old mid new p q n alone had.
    let same = p n alone had in q n alone (still_there old mid n same had) ∙ same)

-- a file is put where nothing stood, or is not put
beside_kept : (name : List ℕ) (old new : Entries) → old name ≡ absent → KeepsBeside name old new → KeepsFiles old new
beside_kept name old new none kept n alone had =
    elim (kept n (λ same. had (ap old same ∙ none))) [
      | inl same ↦ same
      | inr beside ↦ absurd (had beside.0)
    ]

pub keeps_put : {T E : Type 0} (r : Result T (PutFault E)) (name : List ℕ) (gives : Writing) (leaves : E → Writing)
    (before given_up : Option (List ℕ)) (a b : Option Entries) → IsFree name a
    → OnOk r (Changes (Puts name (bytes_by gives)) a b)
    → IfErr r (λ fault. Changes (LeavesPut name gives leaves before given_up fault) a b) → Changes KeepsFiles a b
keeps_put (Ok x) name gives leaves before given_up a b free put left =
    given a b (λ old new none it n alone had. it.others n (λ same. had (ap old same ∙ none))) free put
keeps_put (Err (Unmade why)) name gives leaves before given_up a b free put left =
    given a b (λ old new none it n alone had. it.0 n) free left
keeps_put (Err (Unwritten why)) name gives leaves before given_up a b free put left =
    given a b (λ old new none it. beside_kept name old new none it.1) free left
keeps_put (Err (Unplaced why)) name gives leaves before given_up a b free put left =
    given a b (λ old new none it. beside_kept name old new none it.0.others) free left
