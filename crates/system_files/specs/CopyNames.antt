-- The names of the files of image copies.
use Rattle.std.specs.Prelude.{ℕ, ◌≡◌, ◌<◌, ◌^◌, decimal, List, None, Option, Some}
use Rattle.saved_files.specs.Saved.{name_of}
use Rattle.saved_files.specs.declared.saved_name.SavedName.TheVariants.{Copy}

-- what is read of a text: what it spells, or nothing where it spells nothing
abbrev pub IsReadOf : {T : Type 0} → (T → List ℕ → Type 0) → List ℕ → Option T → Type 0
IsReadOf {T} spells text None = (it : T) → ¬ spells it text
IsReadOf {T} spells text (Some it) = spells it text

-- an id of a copy, in decimal digits: a number above 0 of 32 bits
pub record SpellsId (id : ℕ) (text : List ℕ) : Type 0 where
  pub some : 0 < id
  pub fits : id < 2 ^ 32
  pub spelled : text ≡ decimal id

-- the name that the file of the copy of this id has in a folder
abbrev pub NamesCopy : ℕ → List ℕ → Type 0
NamesCopy id name = (0 < id) × (id < 2 ^ 32) × (name ≡ name_of (Copy id))
