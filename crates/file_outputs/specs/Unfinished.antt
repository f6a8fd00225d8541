-- Names of files that are not whole.
use Rattle.std.specs.Prelude.{ℕ, ◌≡◌, ◌≢◌, ◌++◌, [], List, codes}
use Rattle.std.specs.List.{All}
use Rattle.std.specs.Char.{IsAsciiDigit}

-- these are digits, one at least
pub record AreDigits (n : List ℕ) : Type 0 where
  pub some : n ≢ []
  pub all : All IsAsciiDigit n

-- the name of a file that is to get this name, as long as it is not whole
pub record IsUnfinishedOf (name n : List ℕ) : Type 0 where
  pub digits : List ℕ
  pub spelled : n ≡ name ++ (codes ".unfinished-" ++ digits)
  pub are : AreDigits digits

-- a name has at its end what a file's name has there as long as it is not whole: `.unfinished-`, and
-- digits
pub record NamesUnfinished (n : List ℕ) : Type 0 where
  pub whole : List ℕ
  pub digits : List ℕ
  pub spelled : n ≡ whole ++ (codes ".unfinished-" ++ digits)
  pub some : digits ≢ []
  pub all : All IsAsciiDigit digits
