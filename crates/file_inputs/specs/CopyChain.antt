-- Chains of copies, by their headers.
use Rattle.std.specs.Prelude.{ℕ, ◌≡◌, ◌≤◌, ◌<◌, List, [], ◌∷◌, Option, None, Some, if◌then◌else◌}
use Rattle.std.specs.Prelude.{nat_eq, slice_get}
use Rattle.file_view.specs.declared.copy_header.CopyHeader.{CopyHeader}

-- the parent of a copy, as the first header of its id says; that of a full copy is 0
abbrev pub parent_of : List CopyHeader → ℕ → Option ℕ
parent_of [] id = None
parent_of (header ∷ rest) id =
    if nat_eq header.id id then Some header.parent else parent_of rest id

-- a copy is there, and stands on this older one; a full copy stands on 0
abbrev pub StandsOn : List CopyHeader → ℕ → ℕ → Type 0
StandsOn headers id on = (parent_of headers id ≡ Some on) × (on < id)

-- the first number of a list, or another one of an empty one
abbrev pub first_or : List ℕ → ℕ → ℕ
first_or [] other = other
first_or (number ∷ rest) other = number

-- each of these copies stands on the next one, and the last one on `below`
abbrev pub LeadTo : List CopyHeader → List ℕ → ℕ → Type 0
LeadTo headers [] below = Unit {0}
LeadTo headers (id ∷ rest) below =
    StandsOn headers id (first_or rest below) × LeadTo headers rest below

-- the chain of a copy: it is the first, each stands on the next one, and the last one is full
pub record IsWholeChain (headers : List CopyHeader) (id : ℕ) (chain : List ℕ) : Type 0 where
  pub first : slice_get chain 0 ≡ Some id
  pub down : LeadTo headers chain 0

-- the copy has one
abbrev pub HasChain : List CopyHeader → ℕ → Type 0
HasChain headers id = (chain : List ℕ) × IsWholeChain headers id chain

-- the chain of a copy, and no copy of a higher id has one
pub record IsNewestChain (headers : List CopyHeader) (chain : List ℕ) : Type 0 where
  pub id : ℕ
  pub whole : IsWholeChain headers id chain
  pub newest : (other : ℕ) → HasChain headers other → other ≤ id
