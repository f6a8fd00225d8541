-- The note of a clean closing.
use Rattle.std.specs.Prelude.{ℕ, ◌≡◌, ◌<◌, ◌^◌, IfSome, IsSomeAnd, List, [], ◌∷◌, ◌++◌, Option}
use Rattle.std.specs.Prelude.{codes, decimal}
use Rattle.engine_rules.specs.EngineState.{end}
use Rattle.saved_files.specs.Folder.{Changes, Entries, absent}
use Rattle.database_files.specs.declared.closed_note.ClosedNote.{ClosedNote}

-- where the log ended, in decimal digits, and a line feed
abbrev pub note_of : ℕ → List ℕ
note_of end = decimal end ++ 10 ∷ []

-- these bytes are the note: it tells of some bytes, and their number fits 64 bits
pub record SpellsNote (note : ClosedNote) (bytes : List ℕ) : Type 0 where
  pub some : 0 < note.end
  pub fits : note.end < 2 ^ 64
  pub spelled : bytes ≡ note_of note.end

-- the note of a clean closing says that the log ended here, so it lasts up to here
abbrev pub IsVouched : Option ClosedNote → ℕ → Type 0
IsVouched note end = IsSomeAnd note (λ it. it.end ≡ end)

-- no note stands in a folder, as far as that is known
abbrev pub IsWithoutNote : Option Entries → Type 0
IsWithoutNote entries = IfSome entries (λ it. it (codes "closed") ≡ absent)

-- its name has what it had
abbrev pub KeepsNote : Option Entries → Option Entries → Type 0
KeepsNote = Changes (λ old new. new (codes "closed") ≡ old (codes "closed"))
