-- What a cut of the power may make of the calls of a disk.
use Rattle.std.specs.Prelude.{ℕ, ◌≡◌, List, [], ◌∷◌, length}
use Rattle.sqlite_disk.specs.Disk.{Cut, Torn}
use Rattle.check_power.specs.declared.step.Step.{Step}
use Rattle.check_power.specs.declared.step.Step.TheVariants.{SetLen, Write}

-- of one: what the kit says of a write and of a change of the length
abbrev pub MayMake : Step → List ℕ → List ℕ → Type 0
MayMake (Write at bytes) old new = Torn at (length bytes.items) old new
MayMake (SetLen len) old new = Cut len old new

-- of those since a sync, one after another, the oldest first
abbrev pub MayReach : List Step → List ℕ → List ℕ → Type 0
MayReach [] synced left = left ≡ synced
MayReach (step ∷ later) synced left =
    (next : List ℕ) × MayMake step synced next × MayReach later next left
