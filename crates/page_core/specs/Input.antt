-- What came of asking a reader for more bytes.
use Rattle.std.specs.Prelude.{ℕ, ◌+◌, ◌≤◌, List, length, take, ◌++◌, Option}
use Rattle.std.specs.Io.KnownBytes.{Consumes, IsAtEnd}
use Rattle.page_core.specs.declared.input.Turn.{Turn}
use Rattle.page_core.specs.declared.input.Turn.TheVariants.{More, End, Failed}

-- a reader's known bytes stay known: some were given, or none, and the others are left
abbrev pub StaysKnown : Option (List ℕ) → Option (List ℕ) → Type 0
StaysKnown old new = (given : List ℕ) × Consumes old new given

-- a reader has given all that it had
abbrev pub HasGivenAll : Option (List ℕ) → Option (List ℕ) → Type 0
HasGivenAll old new = StaysKnown old new × IsAtEnd new

-- from wherever the reader gave these bytes and what fills the buffer, it has now given so many
-- more
abbrev pub GoesOn : Option (List ℕ) → Option (List ℕ) → List ℕ → List ℕ → Type 0
GoesOn old new before after = (start : Option (List ℕ)) (given : List ℕ)
    → Consumes start old (given ++ before) → Consumes start new (given ++ after)

abbrev pub Gives : Option (List ℕ) → Option (List ℕ) → ℕ → List ℕ → List ℕ → Turn → Type 0
Gives old new filled before after (More count) =
    (filled + count ≤ length after)
    × GoesOn old new (take filled before) (take (filled + count) after)
Gives old new filled before after End =
    IsAtEnd new × GoesOn old new (take filled before) (take filled before)
Gives old new filled before after Failed = GoesOn old new (take filled before) (take filled before)
