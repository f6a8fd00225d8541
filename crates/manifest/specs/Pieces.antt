-- Bytes up to one of a value.
use Rattle.std.specs.Prelude.{ℕ, ◌≡◌, ◌≢◌, List, length, slice_index, false}
use Rattle.std.specs.Char.{is_ascii_uppercase}
use Rattle.std.specs.List.{AllByRecursion}

-- no byte has this value
abbrev pub LacksByte : ℕ → List ℕ → Type 0
LacksByte stop bytes = AllByRecursion (λ byte. byte ≢ stop) bytes

-- no sign stands in front, and no zero but a lone one
pub record IsPlain (digits : List ℕ) : Type 0 where
  pub unsigned : slice_index digits 0 ≢ 43
  pub lone : slice_index digits 0 ≡ 48 → length digits ≡ 1

-- no digit is a capital letter
abbrev pub HaveNoCapital : List ℕ → Type 0
HaveNoCapital digits = AllByRecursion (λ digit. is_ascii_uppercase digit ≡ false) digits
