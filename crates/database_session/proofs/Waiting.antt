-- Where no copy waits.
use Rattle.std.proofs.Common.{◌≡◌, ℕ, zero, suc, List, refl, replicate, subst, sym}
use Rattle.std.specs.Prelude.{slice_index_or}
use Rattle.database_session.specs.UnplacedCopies.{Waits}
use Rattle.database_session.specs.declared.unplaced_copies.Stage.{Stage}
use Rattle.database_session.specs.declared.unplaced_copies.Stage.TheVariants.{Placed}

all_placed : (n id : ℕ) → slice_index_or (replicate n Placed) id Placed ≡ Placed
all_placed zero id = refl
all_placed (suc n) zero = refl
all_placed (suc n) (suc id) = all_placed n id

pub none_waits : (stages : List Stage) (n id : ℕ) → stages ≡ replicate n Placed → ¬ Waits stages id
none_waits stages n id is = λ waits.
    waits (subst (λ (them : List Stage). slice_index_or them id Placed ≡ Placed) (sym is) (all_placed n id))
