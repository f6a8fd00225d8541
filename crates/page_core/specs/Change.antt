-- What a change does to a slot's number, and what takes it back.
use Rattle.std.specs.Prelude.{ℕ, ◌≡◌, ◌+◌, ◌-◌, ◌%◌, ◌^◌}
use Rattle.page_core.specs.declared.change.Change.{Change}
use Rattle.page_core.specs.declared.change.Change.TheVariants.{Set, Add}
use Rattle.page_core.specs.declared.change.ChangeKind.{ChangeKind}
use Rattle.page_core.specs.declared.change.ChangeKind.TheVariants as kind

-- the slot's number after the change: Set replaces it, Add adds to it modulo 2^64
abbrev pub changed : Change → ℕ → ℕ
changed (Set before after) number = after
changed (Add amount) number = (number + amount) % 2 ^ 64

-- what it does to a number, whatever its own numbers are
abbrev pub kind_of : Change → ChangeKind
kind_of (Set before after) = kind.Set
kind_of (Add amount) = kind.Add

-- the change that takes it back: Set to the number before, Add of what is missing to 2^64
abbrev pub undo_of : Change → Change
undo_of (Set before after) = Set 0 before
undo_of (Add amount) = Add ((2 ^ 64 - amount) % 2 ^ 64)

-- the change was made of this number: it is the one that a Set says it replaces
abbrev pub Replaces : Change → ℕ → Type 0
Replaces (Set before after) number = before ≡ number
Replaces (Add amount) number = Unit {0}
