-- The versions of the formats of logs and archives.
use Rattle.std.specs.Prelude.{ℕ}
use Rattle.page_core.specs.declared.format.Format.{Format}
use Rattle.page_core.specs.declared.format.Format.TheVariants.{First, Second}

-- the character that names a version: 1 or 2
abbrev pub digit_of : Format → ℕ
digit_of First = 49
digit_of Second = 50
