-- The places of a chain's copies.
use Rattle.std.specs.Prelude.{ℕ, ◌-◌, List, None, Option, if◌then◌else◌, length, nat_lt, slice_get}

-- the copy at a place of a chain, counted from its full copy on, which is the last one of the list
abbrev pub from_full : List ℕ → ℕ → Option ℕ
from_full chain place =
    if nat_lt place (length chain) then slice_get chain (length chain - 1 - place) else None
