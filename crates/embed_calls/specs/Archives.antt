-- Archives that stand one behind another.
use Rattle.std.specs.Prelude.{ℕ, List, [], ◌∷◌, Option, Some, drop, map, take}

-- the pieces of these bytes, each of which is so long
abbrev pub pieces : List ℕ → List ℕ → List (List ℕ)
pieces bytes [] = []
pieces bytes (count ∷ counts) = take count bytes ∷ pieces (drop count bytes) counts

-- as what a reader of each one has
abbrev pub inputs_of : List ℕ → List ℕ → List (Option (List ℕ))
inputs_of bytes counts = map (λ piece. Some piece) (pieces bytes counts)
