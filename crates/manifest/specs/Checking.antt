-- A reader that checks: it comes to its end only where its bytes are those that a manifest names.
use Rattle.std.specs.Prelude.{ℕ, ◌&&◌, ◌^◌, ◌==◌, Bool, List, take, replicate, Option, None, Some}
use Rattle.std.specs.Prelude.{if◌then◌else◌}
use Rattle.std.specs.Str.{bytes_eq}
use Rattle.std.specs.Io.KnownBytes.{Consumes, append_known}
use Rattle.sha2.specs.Sha256.{sha256}
use Rattle.manifest.specs.declared.entry.Extent.{Extent}
use Rattle.manifest.specs.declared.entry.Extent.TheVariants.{First, Whole}
use Rattle.manifest.specs.declared.entry.FileSum.{FileSum}
use Rattle.manifest.specs.declared.sums.Sums.{Sums}
use Rattle.manifest.specs.Sums.{HasSummed, IsSumOf, count_of}

-- what is summed of the bytes of a file: all of them, or so many of the first ones
abbrev pub summed_of : Extent → ℕ → List ℕ → List ℕ
summed_of Whole count bytes = bytes
summed_of First count bytes = take count bytes

abbrev pub part_of : FileSum → List ℕ → List ℕ
part_of file bytes = summed_of file.extent file.bytes bytes

-- a file of these bytes is the one that is named: its bytes, or the first ones, have that count and
-- that sum
abbrev pub IsNamed : FileSum → List ℕ → Type 0
IsNamed file bytes = IsSumOf file.sum file.bytes (part_of file bytes)

-- whether it is
abbrev pub is_named : FileSum → List ℕ → Bool
is_named file bytes = bytes_eq file.sum.0 (sha256 (part_of file bytes))
    && (file.bytes == count_of (part_of file bytes))

-- more bytes than a reader gives
unfoldable pub too_many : List ℕ
too_many = replicate (2 ^ 64) 0

-- what a reader of these bytes has left, which checks them, where the one below has so much left. A
-- file that is not the one that is named has more left than a reader gives: so its reader never
-- comes to an end
abbrev pub checked : FileSum → Option (List ℕ) → Option (List ℕ) → Option (List ℕ)
checked file None left = left
checked file (Some bytes) left =
    if is_named file bytes then left else append_known left too_many

-- a reader gave bytes of which just the part that counts is summed
abbrev pub PartGiven : FileSum → Option (List ℕ) → Option (List ℕ) → Sums → Type 0
PartGiven file old new sums =
    (given : List ℕ) × Consumes old new given × HasSummed sums (part_of file given)

-- what is named, and the reader below: as it was when nothing was read yet, and as it is
pub record Checking (R : Type 0) : Type 0 where
  pub file : FileSum
  pub begun : R
  pub reached : R
