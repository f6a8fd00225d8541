-- When a script is refused.
use Rattle.std.specs.Prelude.{ℕ, ◌≡◌, ◌-◌, ◌≤◌, List, [], get_or, length, IsUtf8, Option}
use Rattle.std.specs.Io.KnownBytes.{Consumes}
use Rattle.event_script.specs.declared.fault.ScriptFault.{ScriptFault}
use Rattle.event_script.specs.declared.fault.ScriptFault.TheVariants.{OutOfMemory, Input, ReadFault}
use Rattle.event_script.specs.declared.fault.ScriptFault.TheVariants.{BadLine}
use Rattle.event_script.specs.LineFault.{why_bad}
use Rattle.event_script.specs.Script.{IsFirstBad}
use Rattle.event_script.specs.Words.{lines_of}

-- an input whose lines are looked at
pub record IsText (input : List ℕ) : Type 0 where
  pub short : length input ≤ 16777216
  pub utf8 : IsUtf8 input

-- an input that is refused is no text, and a bad line is the first one of a text, and is bad for
-- the reason that is told; memory and the reader are no part of the input
abbrev pub Refuses : List ℕ → ScriptFault → Type 0
Refuses input OutOfMemory = Unit {0}
Refuses input ReadFault = Unit {0}
Refuses input Input = ¬ IsText input
Refuses input (BadLine number why) =
    IsText input × IsFirstBad (lines_of input) number
    × (why ≡ why_bad (get_or (lines_of input) (number - 1) []))

-- the fault is one of the input
abbrev pub IsOfInput : ScriptFault → Type 0
IsOfInput OutOfMemory = ⊥
IsOfInput ReadFault = ⊥
IsOfInput of_the_input = Unit {0}

-- where the reader failed, what it gave until then is not too long
abbrev pub GaveNoFault : Option (List ℕ) → Option (List ℕ) → ScriptFault → Type 0
GaveNoFault old new ReadFault =
    (given : List ℕ) × Consumes old new given × (length given ≤ 16777216)
GaveNoFault old new other = Unit {0}
