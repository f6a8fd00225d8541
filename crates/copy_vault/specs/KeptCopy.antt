-- A complete copy as a vault keeps it.
use Rattle.std.specs.Arc.{arc_value}
use Rattle.copy_vault.specs.Copy.{CopyView}
use Rattle.copy_vault.specs.declared.lent_copy.CopyPlace.{CopyPlace}
use Rattle.copy_vault.specs.declared.lent_copy.CopyPlace.TheVariants.{Own, Lent}

-- the copy, whether it was lent or not
abbrev pub copy_at : CopyPlace → CopyView
copy_at (Own copy) = copy
copy_at (Lent copy) = arc_value copy
