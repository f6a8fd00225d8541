use Rattle.std.specs.Prelude.{[]}
use Rattle.test_threads.proofs.takes.gate_two_workers.Given as goal

abbrev pub ghosts-copy_by_two-G-Ledger : goal.ghosts-copy_by_two-G-Ledger
ghosts-copy_by_two-G-Ledger g a = record { name = a.blank.name; parts = a.blank.parts }

abbrev pub ghosts-copy_by_two-G-Life : goal.ghosts-copy_by_two-G-Life
ghosts-copy_by_two-G-Life g a = record { before = [] }
