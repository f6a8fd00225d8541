-- What is written a group of items after another.
use Rattle.std.proofs.Common.{◌≡◌, ℕ, ◌+◌, ◌-◌, List, ◌++◌, take, drop, refl, sym, ap, ◌∙◌, arith}
use Rattle.std.specs.List.{flat_map}
use Rattle.std.proofs.lemmas.List.{append_assoc, take-append-drop}
use Rattle.std.proofs.lemmas.List.Concat.{flat_map-append}
use Rattle.page_core.proofs.Public.{grow}

-- the items of a group
abbrev pub group : {X : Type 0} → List X → ℕ → ℕ → List X
group items first count = take (first + count - first) (drop first items)

front : {X : Type 0} (items : List X) (first count : ℕ)
    → take first items ++ group items first count ≡ take (first + count) items
front items first count = grow items (take first items) (group items first count) first (first + count)
    (omega arith) refl refl

-- the bytes of the items so far and of the group are those of the items up to its end
pub further : {X : Type 0} (piece : X → List ℕ) (items : List X) (first count : ℕ)
    → flat_map piece (take first items) ++ flat_map piece (group items first count)
    ≡ flat_map piece (take (first + count) items)
further piece items first count =
    sym (flat_map-append piece (take first items) (group items first count))
    ∙ ap (flat_map piece) (front items first count)

-- and with the items behind it those of all
pub whole : {X : Type 0} (piece : X → List ℕ) (items : List X) (first count : ℕ)
    → flat_map piece (take first items) ++ (flat_map piece (group items first count)
    ++ flat_map piece (drop (first + count) items)) ≡ flat_map piece items
whole piece items first count =
    sym (append_assoc (flat_map piece (take first items)) (flat_map piece (group items first count))
    (flat_map piece (drop (first + count) items)))
    ∙ ap (λ (bs : List ℕ). bs ++ flat_map piece (drop (first + count) items)) (further piece items first count)
    ∙ sym (flat_map-append piece (take (first + count) items) (drop (first + count) items))
    ∙ ap (flat_map piece) (take-append-drop (first + count) items)
