-- Files that get another name.
use Rattle.std.specs.Prelude.{ℕ, ◌≡◌, ◌≢◌, ◌⊎◌, ◌++◌, [], ◌∷◌, IfSome, List, None, Option, Some}
use Rattle.std.specs.Prelude.{codes, decimal}
use Rattle.saved_files.specs.Folder.{Changes, Entries, IsRenamed, IsSame, Puts, absent}
use Rattle.saved_files.specs.Saved.{name_of}
use Rattle.saved_files.specs.declared.saved_name.SavedName.TheVariants as saved
use Rattle.database_files.specs.Standing.{IsLeftAlone}
use Rattle.database_files.specs.declared.evidence.ForcedEndClaim.{ForcedEndClaim}
use Rattle.database_files.specs.declared.evidence.Witness.{Witness}
use Rattle.database_files.specs.declared.evidence.Witness.TheVariants as witness

-- nothing has this name, as far as that is known
abbrev pub IsFree : List ℕ → Option Entries → Type 0
IsFree name entries = IfSome entries (λ it. it name ≡ absent)

-- the name that a refused file of this name gets, with a number where something has the first one
abbrev pub IsAside : List ℕ → List ℕ → Type 0
IsAside name aside = (aside ≡ name ++ codes ".refused")
    ⊎ ((number : ℕ) × (aside ≡ name ++ (codes ".refused-" ++ decimal number)))

-- what had this name has such a one, which nothing had
abbrev pub IsMoved : List ℕ → Option Entries → Option Entries → Type 0
IsMoved name old new = (aside : List ℕ) × IsAside name aside × IsFree aside old
    × Changes (IsRenamed name aside) old new

-- all is as it was, or what had this name has such a one, which nothing had
abbrev pub KeepsOrMoves : List ℕ → Entries → Entries → Type 0
KeepsOrMoves name old new = IsSame old new
    ⊎ ((aside : List ℕ) × IsAside name aside × (old aside ≡ absent) × IsRenamed name aside old new)

-- nothing had this name, and all is as it was; or what had it has another one
abbrev pub IsCleared : List ℕ → Option Entries → Option Entries → Type 0
IsCleared name old new = (IsFree name old × (new ≡ old)) ⊎ IsMoved name old new

-- a file of such bytes is put under this name, and no other name changes; but what had it, where
-- that was wrong, has another one
pub record PutsAside (is_wrong : Type 0) (name : List ℕ) (fits : List ℕ → Type 0)
    (old new : Option Entries) : Type 0 where
  pub mid : Option Entries
  pub cleared : is_wrong → IsCleared name old mid
  pub kept : ¬ is_wrong → mid ≡ old
  pub put : Changes (Puts name fits) mid new

-- nothing had this name, and the folder was left as it was; or what had it has another one, and the
-- names are stored
abbrev pub IsFreed : List ℕ → Option Entries → Option Entries → Type 0 → Type 0 → Type 0
IsFreed name old new is_kept is_stored =
    (IsFree name old × is_kept) ⊎ (IsMoved name old new × is_stored)

-- ---- files that know of more than the log has

-- the name of the file that a witness is; the note of the closing is removed by each opening, and
-- what stands behind the log is cut off
abbrev pub file_name_of : Witness → Option (List ℕ)
file_name_of witness.Closed = None
file_name_of witness.Manifest = Some (codes "manifest")
file_name_of witness.Changed = Some (codes "manifest")
file_name_of witness.Master = Some (name_of saved.Master)
file_name_of (witness.Begin id) = Some (name_of (saved.Copy id))
file_name_of (witness.Page id page) = Some (name_of (saved.Copy id))
file_name_of witness.Record = None

-- what had this name has another one, if there is such a name; else all is as it was
abbrev pub IsSetAsideAt : Option (List ℕ) → Option Entries → Option Entries → Type 0
IsSetAsideAt None old new = new ≡ old
IsSetAsideAt (Some name) old new = IsFreed name old new (new ≡ old) (Unit {0})

-- the file of this name may know of more
abbrev pub MayKnowMore : List ℕ → Type 0
MayKnowMore name = (witness : Witness) × (file_name_of witness ≡ Some name)

-- each file that an opening leaves alone stands there as it was, under its name; but one that may
-- know of more than the log has may have the name of a refused file
abbrev pub KeepsOrPutsAside : Entries → Entries → Type 0
KeepsOrPutsAside old new = (n : List ℕ) → IsLeftAlone n → old n ≢ absent → (new n ≡ old n)
    ⊎ (MayKnowMore n × (aside : List ℕ) × IsAside n aside × (new aside ≡ old n))

-- one after another, the files of these claims get other names
pub data AreSetAside (begun : Option Entries) : List ForcedEndClaim → Option Entries → Type 0 where
  none_left : AreSetAside begun [] begun
  one_more : (claims : List ForcedEndClaim) (claim : ForcedEndClaim) (old new : Option Entries)
      → AreSetAside begun claims old → IsSetAsideAt (file_name_of claim.witness) old new
      → AreSetAside begun (claims ++ claim ∷ []) new
