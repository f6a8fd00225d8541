-- A disk of which contracts know what it was asked to do.
use Rattle.std.specs.Prelude.{ℕ, ◌≡◌, List, length, take}
use Rattle.file_devices.specs.declared.calls.FileCall.{FileCall}

-- the calls that were made of it, and the disk
pub record Asked (D : Type 0) : Type 0 where
  pub calls : List FileCall
  pub disk : D

-- a file has these bytes as its first ones
abbrev pub Begins : List ℕ → List ℕ → Type 0
Begins front file = take (length front) file ≡ front

-- each content that a crash may leave has these bytes as its first ones
abbrev pub BeginsEach : List ℕ → (List ℕ → Type 0) → Type 0
BeginsEach front outcomes = (left : List ℕ) → outcomes left → Begins front left
