use Rattle.std.specs.Prelude.{[]}
use Rattle.check_library.proofs.shared_run.told_of_run.Given as goal

abbrev pub ghosts-open_and_run-G-Ledger : goal.ghosts-open_and_run-G-Ledger
ghosts-open_and_run-G-Ledger g a = record { name = a.blank.name; parts = a.blank.parts }

abbrev pub ghosts-open_and_run-G-Life : goal.ghosts-open_and_run-G-Life
ghosts-open_and_run-G-Life g a = record { before = [] }
