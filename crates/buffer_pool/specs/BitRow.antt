-- A row of bits, in words of 64.
use Rattle.std.specs.Prelude.{ℕ, ◌*◌, ◌/◌, ◌%◌, ◌==◌, Bool, List, length, map, slice_index}
use Rattle.std.specs.Int.{bit_at}
use Rattle.std.specs.List.{range_with_len}

-- the bit of this number is set
abbrev pub bit : List ℕ → ℕ → Bool
bit words n = bit_at (slice_index words (n / 64)) (n % 64) == 1

-- the bits of all words
unfoldable pub bits_of : List ℕ → List Bool
bits_of words = map (bit words) (range_with_len 0 (64 * length words))
