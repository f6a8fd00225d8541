-- The whole life of an open database, from its opening to its end.
use Rattle.std.specs.Prelude.{ℕ, Bool, List, Option}
use Rattle.engine_rules.specs.EngineState.{EngineState}
use Rattle.database_opening.specs.FirstLine.{first_line}
use Rattle.database_opening.specs.Opened.{Begins}
use Rattle.database_session.specs.Session.{LivesByAllLines, LivesByLines}
use Rattle.saved_files.specs.Folder.{Entries}
use Rattle.database_opening.specs.declared.first_line.FirstLine.{FirstLine}

-- a database was begun in a folder where this stood, as a new one of as many pages as were told, or
-- from the file of its log and from those of its copies, and only if that log lacks nothing, unless
-- it was to be opened so; and then it lived so, with this first line
pub record Lived (entries : Option Entries) (is_salvage : Bool) (told : Option ℕ) (frames : ℕ)
    (ran : List ℕ → EngineState → EngineState → Type 0) : Type 0 where
  pub log : Option ℕ
  pub ids : List ℕ
  pub first : FirstLine
  pub begun : EngineState
  pub begins : Begins entries is_salvage log ids told frames first begun
  pub ended : EngineState
  pub lives : ran (first_line first) begun ended

-- its engine ran by the calls of lines of this input, and by those of a closing. Its output had the
-- bytes before, and has those after; folder, input and output as far as they are known
abbrev pub LivedByLines : Option Entries → Option (List ℕ) → Bool → Option ℕ → ℕ
    → Option (List ℕ) → Option (List ℕ) → Type 0
LivedByLines entries input is_salvage told frames before after =
    Lived entries is_salvage told frames
    (λ first old new. LivesByLines first input old new before after)

-- it ran by the calls of all lines of this input, and then it was closed well
abbrev pub LivedByAllLines : Option Entries → Option (List ℕ) → Bool → Option ℕ → ℕ
    → Option (List ℕ) → Option (List ℕ) → Type 0
LivedByAllLines entries input is_salvage told frames before after =
    Lived entries is_salvage told frames
    (λ first old new. LivesByAllLines first input old new before after)
