-- The lines of an input, as an open database takes them.
use Rattle.std.specs.Prelude.{ℕ, ◌≡◌, ◌<◌, ◌≤◌, Bool, false, true, List, [], ◌∷◌, ◌++◌, Option}
use Rattle.std.specs.Prelude.{Some, None, IfSome, codes, if◌then◌else◌, length, nat_le, slice_range}
use Rattle.std.specs.Prelude.{take}
use Rattle.std.specs.Io.KnownBytes.{Consumes, IsAtEnd, prepend_known}
use Rattle.std.specs.List.{All}
use Rattle.event_script.specs.Words.{has_bytes, lines_of}
use Rattle.session_lines.specs.Commands.{SpellsText}
use Rattle.session_lines.specs.declared.line_reader.LineReader.{LineReader}
use Rattle.session_lines.specs.declared.line_reader.NextByte.{NextByte}
use Rattle.session_lines.specs.declared.line_reader.NextByte.TheVariants as byte
use Rattle.session_lines.specs.declared.line_reader.NextLine.{NextLine}
use Rattle.session_lines.specs.declared.line_reader.NextLine.TheVariants as next

-- ---- lines

-- what is read as a line: the bytes before a line feed; those behind the last one, if there are
-- some; or more bytes than a line has at most
pub data Line : Type 0 where
  whole : (bytes : List ℕ) → Line
  unended : (bytes : List ℕ) → Line
  too_long : Line

-- a line has at most 1,024 bytes
abbrev pub line_of : (List ℕ → Line) → List ℕ → Line
line_of kind bytes = if nat_le (length bytes) 1024 then kind bytes else too_long

-- line feeds end all of some pieces but the last, which is no line where it is empty
abbrev pub lines_of_pieces : List (List ℕ) → List Line
lines_of_pieces [] = []
lines_of_pieces (piece ∷ []) = if has_bytes piece then line_of unended piece ∷ [] else []
lines_of_pieces (piece ∷ next ∷ pieces) = line_of whole piece ∷ lines_of_pieces (next ∷ pieces)

-- the lines of an input
abbrev pub lines_in : List ℕ → List Line
lines_in input = lines_of_pieces (lines_of input)

-- a line says to quit, which is as the end of the input
abbrev pub SaysQuit : Line → Type 0
SaysQuit (whole bytes) = SpellsText bytes (codes "quit")
SaysQuit (unended bytes) = ⊥
SaysQuit too_long = ⊥

-- no line is left, or the next one says to quit
abbrev pub IsOver : List Line → Type 0
IsOver [] = Unit {0}
IsOver (line ∷ lines) = SaysQuit line

-- an input begins with these lines, none of which says to quit, and these are left
pub record BeginsWithLines (input : List ℕ) (lines left : List Line) : Type 0 where
  pub first : lines_in input ≡ lines ++ left
  pub go_on : All (λ line. ¬ SaysQuit line) lines

-- these are the first lines of an input that is known
abbrev pub AreFirstLines : Option (List ℕ) → List Line → Type 0
AreFirstLines input lines =
    IfSome input (λ bytes. (left : List Line) × BeginsWithLines bytes lines left)

-- these are all of its lines, up to its end or to one that says to quit
abbrev pub AreAllLines : Option (List ℕ) → List Line → Type 0
AreAllLines input lines =
    IfSome input (λ bytes. (left : List Line) × BeginsWithLines bytes lines left × IsOver left)

-- ---- what a reader of lines has yet to give

-- the bytes that it has read and not given, and then those of the reader that it reads
abbrev pub bytes_left : {R : Type 0} → (R → Option (List ℕ)) → LineReader R → Option (List ℕ)
bytes_left remaining lines =
    prepend_known (slice_range lines.piece.items lines.next lines.filled) (remaining lines.reader)

-- known bytes begin with these lines, and lose them
abbrev pub LosesLines : Option (List ℕ) → Option (List ℕ) → List Line → Type 0
LosesLines None new lines = Unit {0}
LosesLines (Some old) None lines = ⊥
LosesLines (Some old) (Some new) lines = lines_in old ≡ lines ++ lines_in new

-- what came of reading a byte: known bytes begin with it, and lose it; or they are at their end; or
-- the reader failed
abbrev pub GivesByte : Option (List ℕ) → Option (List ℕ) → NextByte → Type 0
GivesByte old new (byte.Byte byte) = Consumes old new (byte ∷ [])
GivesByte old new byte.End = Consumes old new [] × IsAtEnd new
GivesByte old new byte.Failed = Unit {0}

-- so much of a line was read: all of it stands first in a buffer, or it is more than that has room
-- for
abbrev pub IsReadSoFar : List ℕ → ℕ → Bool → List ℕ → Type 0
IsReadSoFar buffer len false bytes = (len ≤ length buffer) × (bytes ≡ take len buffer)
IsReadSoFar buffer len true bytes = (0 < len) × (length buffer < length bytes)

-- what came of reading a line, whose bytes stand first in a buffer: the line was lost; or there is
-- none; or the reader failed
abbrev pub GivesLine : Option (List ℕ) → Option (List ℕ) → List ℕ → NextLine → Type 0
GivesLine old new buffer (next.Line len) =
    (len ≤ length buffer) × LosesLines old new (whole (take len buffer) ∷ [])
GivesLine old new buffer next.TooLong = LosesLines old new (too_long ∷ [])
GivesLine old new buffer (next.Unended len) =
    (len ≤ length buffer) × LosesLines old new (unended (take len buffer) ∷ [])
GivesLine old new buffer next.End = IfSome old (λ bytes. lines_in bytes ≡ [])
GivesLine old new buffer next.Failed = Unit {0}

-- what came of reading a line where one that says to quit is not given, and counts as the end
abbrev pub GivesUntilQuit : Option (List ℕ) → Option (List ℕ) → List ℕ → NextLine → Type 0
GivesUntilQuit old new buffer (next.Line len) =
    GivesLine old new buffer (next.Line len) × ¬ SaysQuit (whole (take len buffer))
GivesUntilQuit old new buffer next.End = IfSome old (λ bytes. IsOver (lines_in bytes))
GivesUntilQuit old new buffer next.TooLong = GivesLine old new buffer next.TooLong
GivesUntilQuit old new buffer (next.Unended len) = GivesLine old new buffer (next.Unended len)
GivesUntilQuit old new buffer next.Failed = Unit {0}
