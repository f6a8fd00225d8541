-- A folder in which the name of a note may be gone.
use Rattle.std.proofs.Common.{◌≢◌, ◌∙◌, ℕ, Bool, List, false, refl, sym, true}
use Rattle.std.specs.Prelude.{codes, None, Option, Some}
use Rattle.saved_files.specs.Folder.{Changes, Entries, IsRemoved, IsSame, KeepsOthers, Puts}
use Rattle.database_files.specs.Closed.{IsWithoutNote, KeepsNote}
use Rattle.database_files.specs.DatabaseFolder.{Tells}

pub forgets : (name : List ℕ) (old new : Option Entries) → Changes (IsRemoved name) old new
    → Changes (KeepsOthers name) old new
forgets name None None change = tt
forgets name None (Some new) change = absurd change
forgets name (Some old) None change = change
forgets name (Some old) (Some new) change = change.others

pub keeps_all : (name : List ℕ) (entries : Option Entries) → Changes (KeepsOthers name) entries entries
keeps_all name None = tt
keeps_all name (Some entries) = λ n other. refl

-- ---- no note stands there

-- one that is removed is gone
pub is_gone : (old new : Option Entries) → Changes (IsRemoved (codes "closed")) old new → IsWithoutNote new
is_gone old None change = tt
is_gone None (Some new) change = absurd change
is_gone (Some old) (Some new) change = change.removed

-- or none stood there
pub was_none : (entries : Option Entries) → Tells entries (codes "closed") false → IsWithoutNote entries
was_none None told = tt
was_none (Some there) told = told

pub keeps_note : (entries : Option Entries) → KeepsNote entries entries
keeps_note None = tt
keeps_note (Some there) = refl

-- a file that is put in place under another name keeps it
pub note_put : (name : List ℕ) (fits : List ℕ → Type 0) (a b c : Option Entries) → name ≢ codes "closed"
    → Changes (Puts name fits) a b → Changes IsSame b c → KeepsNote a c
note_put name fits None None None apart put same = tt
note_put name fits None None (Some new) apart put same = absurd same
note_put name fits None (Some mid) c apart put same = absurd put
note_put name fits (Some old) None c apart put same = absurd put
note_put name fits (Some old) (Some mid) None apart put same = absurd same
note_put name fits (Some old) (Some mid) (Some new) apart put same =
    same (codes "closed") ∙ put.others (codes "closed") (λ is. apart (sym is))

-- what is told of the note is told of it then, too
pub told_then : (old new : Option Entries) (told : Bool) → KeepsNote old new → Tells old (codes "closed") told
    → Tells new (codes "closed") told
told_then old None told keeps is = tt
told_then None (Some new) told keeps is = absurd keeps
told_then (Some old) (Some new) true keeps is = λ none. is (sym keeps ∙ none)
told_then (Some old) (Some new) false keeps is = keeps ∙ is
