-- What a device of a log keeps.
use Rattle.std.specs.Prelude.{ℕ, ◌≡◌, ◌≤◌, List, length, take}

-- the first n bytes stay
pub record KeepsFirst (n : ℕ) (old new : List ℕ) : Type 0 where
  pub there : n ≤ length new
  pub same : take n new ≡ take n old
