-- The hash of a slot's number.
use Rattle.std.specs.Prelude.{ℕ, ◌*◌, ◌%◌, ◌^◌, List, fold, bit_xor}
use Rattle.std.specs.Int.{rotate_right, w32}
use Rattle.buffer_pool.specs.declared.page_hasher.PageHasher.{PageHasher}

-- the number that the bytes are put into so far, and one byte more
abbrev pub with_byte : ℕ → ℕ → ℕ
with_byte number byte = rotate_right w32 (bit_xor number byte) 8

abbrev pub write_all : PageHasher → List ℕ → PageHasher
write_all hasher bytes = record { 0 = fold with_byte hasher.0 bytes }

abbrev pub hash_of : PageHasher → ℕ
hash_of hasher = (hasher.0 * 0x9E3779B1) % 2 ^ 32
