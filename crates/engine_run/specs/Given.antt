-- The ids of image copies, each marked once.
use Rattle.std.specs.Prelude.{ℕ, ◌≡◌, Bool, false, List, slice_index_or, if◌then◌else◌}
use Rattle.settlement.specs.Receipt.{times}

-- these ids are marked, and none is there twice
abbrev pub AreGiven : List Bool → List ℕ → Type 0
AreGiven marks ids =
    (id : ℕ) → times id ids ≡ (if slice_index_or marks id false then 1 else 0)
