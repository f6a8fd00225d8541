-- Which kinds of records the logs of a format have.
use Rattle.std.specs.Prelude.{ℕ}
use Rattle.page_core.specs.declared.format.Format.{Format}
use Rattle.page_core.specs.declared.format.Format.TheVariants.{First, Second}

-- the greatest number of a kind
abbrev pub last_kind : Format → ℕ
last_kind First = 10
last_kind Second = 11
