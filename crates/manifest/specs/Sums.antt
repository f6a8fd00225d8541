-- Sums of bytes that come piece by piece.
use Rattle.std.specs.Prelude.{ℕ, ◌≡◌, ◌≢◌, ◌-◌, ◌^◌, min, List, length, Option}
use Rattle.std.specs.Io.KnownBytes.{Appends, Consumes}
use Rattle.sha2.specs.Sha256.{sha256}
use Rattle.sha2.specs.Hashers.{Holds256}
use Rattle.manifest.specs.declared.sum.Sum.{Sum}
use Rattle.manifest.specs.declared.sums.Sums.{Sums}

-- the count of some bytes, as far as 64 bits count
abbrev pub count_of : List ℕ → ℕ
count_of bytes = min (length bytes) (2 ^ 64 - 1)

-- the sum and the count of just these bytes
pub record IsSumOf (sum : Sum) (count : ℕ) (bytes : List ℕ) : Type 0 where
  pub digest : sum.0 ≡ sha256 bytes
  pub many : count ≡ count_of bytes

-- just these bytes were summed so far
pub record HasSummed (sums : Sums) (bytes : List ℕ) : Type 0 where
  pub hasher : Holds256 sums.hasher bytes
  pub many : sums.count ≡ count_of bytes

-- a reader gave just the bytes that are summed, since its known bytes were those of old
abbrev pub SumsGiven : Option (List ℕ) → Option (List ℕ) → Sums → Type 0
SumsGiven old new sums = (given : List ℕ) × Consumes old new given × HasSummed sums given

-- a writer took just the bytes that are summed, since its known bytes were those of old
abbrev pub SumsTaken : Option (List ℕ) → Option (List ℕ) → Sums → Type 0
SumsTaken old new sums = (taken : List ℕ) × Appends old new taken × HasSummed sums taken

-- the sum and the count of just the bytes that a reader gave, since its known bytes were those of old
pub record IsSumOfGiven (old new : Option (List ℕ)) (sum : Sum) (count : ℕ) : Type 0 where
  pub given : List ℕ
  pub left : Consumes old new given
  pub is : IsSumOf sum count given

-- two texts with one count and one digest
pub record Collide (a b : List ℕ) : Type 0 where
  pub differ : a ≢ b
  pub many : count_of a ≡ count_of b
  pub digest : sha256 a ≡ sha256 b
