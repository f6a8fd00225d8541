-- The lines of a script, the words of a line, and the number that a word is.
use Rattle.std.specs.Prelude.{ℕ, ◌+◌, ◌-◌, ◌*◌, ◌&&◌, Bool, true, false, List, [], ◌∷◌}
use Rattle.std.specs.Prelude.{length, filter, nat_eq, nat_le, nat_lt, Option, Some, None}
use Rattle.std.specs.Prelude.{if◌then◌else◌}

-- a byte in front of the first piece
abbrev pub onto_first : ℕ → List (List ℕ) → List (List ℕ)
onto_first byte [] = (byte ∷ []) ∷ []
onto_first byte (piece ∷ pieces) = (byte ∷ piece) ∷ pieces

-- what stands between the bytes that part it, and before the first and behind the last of them
abbrev pub pieces_at : ℕ → List ℕ → List (List ℕ)
pieces_at parting [] = [] ∷ []
pieces_at parting (byte ∷ bytes) =
    if nat_eq byte parting then [] ∷ pieces_at parting bytes
    else onto_first byte (pieces_at parting bytes)

abbrev pub has_bytes : List ℕ → Bool
has_bytes [] = false
has_bytes (byte ∷ bytes) = true

-- a line feed, which ends a line, or parts it from the next
abbrev pub lines_of : List ℕ → List (List ℕ)
lines_of input = pieces_at 10 input

-- one or more spaces part words; before the first and behind the last they part nothing
abbrev pub words_of : List ℕ → List (List ℕ)
words_of line = filter has_bytes (pieces_at 32 line)

-- the line without a carriage return at its end
abbrev pub without_return : List ℕ → List ℕ
without_return [] = []
without_return (byte ∷ []) = if nat_eq byte 13 then [] else byte ∷ []
without_return (byte ∷ next ∷ bytes) = byte ∷ without_return (next ∷ bytes)

abbrev pub is_digit : ℕ → Bool
is_digit byte = nat_le 48 byte && nat_le byte 57

-- the number of these digits, behind digits that make a number
abbrev pub digits_after : ℕ → List ℕ → Option ℕ
digits_after number [] = Some number
digits_after number (byte ∷ bytes) =
    if is_digit byte then digits_after (number * 10 + (byte - 48)) bytes else None

-- what is below a bound
abbrev pub below : ℕ → Option ℕ → Option ℕ
below bound None = None
below bound (Some number) = if nat_lt number bound then Some number else None

-- the number of 1 to 20 digits that fits 64 bits
abbrev pub number_of : List ℕ → Option ℕ
number_of word =
    if nat_le 1 (length word) && nat_le (length word) 20
    then below 18446744073709551616 (digits_after 0 word) else None
