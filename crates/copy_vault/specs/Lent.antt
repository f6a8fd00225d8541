-- What is lent.
use Rattle.std.specs.Prelude.{List, map}
use Rattle.std.specs.Borrow.{Bor}

-- what the references are to
abbrev pub lent : {T : Type 0} → List (Bor T) → List T
lent refs = map (λ r. r.now) refs
