-- What a file has left that is opened when it is first read.
use Rattle.std.specs.Prelude.{ℕ, List, [], Option, Some}
use Rattle.saved_files.specs.declared.late_file.Stage.{Stage}
use Rattle.saved_files.specs.declared.late_file.Stage.TheVariants.{Unopened, Open, Ended}

-- all of its bytes, then what the open file has left, and at its end nothing
abbrev pub left_of : {F : Type 0} → (F → Option (List ℕ)) → Option (List ℕ) → Stage F
    → Option (List ℕ)
left_of remaining whole Unopened = whole
left_of remaining whole (Open file) = remaining file
left_of remaining whole Ended = Some []
