use Rattle.std.specs.Prelude.{[]}
use Rattle.check_library.proofs.repairs.told_of_repairs.Given as goal

abbrev pub ghosts-day-G-Ledger : goal.ghosts-day-G-Ledger
ghosts-day-G-Ledger g a = record { name = a.blank.name; parts = a.blank.parts }

abbrev pub ghosts-day-G-Life : goal.ghosts-day-G-Life
ghosts-day-G-Life g a = record { before = [] }
