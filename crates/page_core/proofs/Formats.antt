-- A version of the formats is known by its character.
use Rattle.std.proofs.Common.{◌≡◌, refl, arith}
use Rattle.page_core.specs.declared.format.Format.{Format}
use Rattle.page_core.specs.declared.format.Format.TheVariants.{First, Second}
use Rattle.page_core.specs.Format.{digit_of}

pub same_format : (a b : Format) → digit_of a ≡ digit_of b → a ≡ b
same_format First First e = refl
same_format First Second e = absurd (omega (arith, e))
same_format Second First e = absurd (omega (arith, e))
same_format Second Second e = refl
