use Rattle.std.specs.Prelude.{[]}
use Rattle.check_library.proofs.workers.told_of_workers.Given as goal

abbrev pub ghosts-open_and_copy-G-Ledger : goal.ghosts-open_and_copy-G-Ledger
ghosts-open_and_copy-G-Ledger g a = record { name = a.blank.name; parts = a.blank.parts }

abbrev pub ghosts-open_and_copy-G-Life : goal.ghosts-open_and_copy-G-Life
ghosts-open_and_copy-G-Life g a = record { before = [] }
