-- How a command ended, and the program's status then.
use Rattle.std.specs.Prelude.{ℕ, List, Option}
use Rattle.copy_coverage.specs.Retired.{RetiredView}
use Rattle.script_run.specs.Run.{Runs}
use Rattle.event_script.specs.declared.script.LastRestore.{LastRestore}
use Rattle.open_database.specs.declared.open.OpenEnd.{OpenEnd}
use Rattle.open_database.specs.declared.open.OpenEnd.TheVariants.{Failed, Refused, Well}

-- that of a database that was open: 0 where all went well, 1 where a line was refused that was not
-- to be, and 2 where it was not opened or something failed
abbrev pub status_of_opened : OpenEnd → ℕ
status_of_opened Well = 0
status_of_opened Refused = 1
status_of_opened Failed = 2

-- that of a backup or a renewal: 0 where all went well, and else 2
abbrev pub status_of_closed : OpenEnd → ℕ
status_of_closed Well = 0
status_of_closed Refused = 2
status_of_closed Failed = 2

-- a script was played: from what the reader gave, its replies went out
pub record IsPlayed (pages frames : ℕ) (input old new : Option (List ℕ)) : Type 0 where
  pub retired : RetiredView
  pub last : Option LastRestore
  pub runs : Runs pages frames input old new retired last
