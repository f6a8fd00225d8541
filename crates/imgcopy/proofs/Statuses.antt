-- The status 0 of a backup and a renewal.
use Rattle.std.proofs.Common.{◌≡◌, arith, refl}
use Rattle.open_database.specs.declared.open.OpenEnd.{OpenEnd}
use Rattle.open_database.specs.declared.open.OpenEnd.TheVariants.{Failed, Refused, Well}
use Rattle.imgcopy.specs.Ends.{status_of_closed}

-- it is that only where all went well
pub only_well : (end : OpenEnd) → status_of_closed end ≡ 0 → end ≡ Well
only_well Well zero = refl
only_well Refused zero = absurd (omega (arith, zero))
only_well Failed zero = absurd (omega (arith, zero))
