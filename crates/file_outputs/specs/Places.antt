-- Paths of one place.
use Rattle.std.specs.Prelude.{ℕ, ◌≡◌, List, None, Option, Some}

-- both are of files, and these have one name
abbrev pub HaveOneName : Option (List ℕ × List ℕ) → Option (List ℕ × List ℕ) → Type 0
HaveOneName None other = ⊥
HaveOneName (Some one) None = ⊥
HaveOneName (Some one) (Some other) = one.1 ≡ other.1
