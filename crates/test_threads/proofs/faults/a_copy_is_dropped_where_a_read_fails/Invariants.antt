use Rattle.std.specs.Prelude.{[]}
use Rattle.test_threads.proofs.faults.a_copy_is_dropped_where_a_read_fails.Given as goal

abbrev pub ghosts-copy_again-G-Ledger : goal.ghosts-copy_again-G-Ledger
ghosts-copy_again-G-Ledger g a = record { name = a.blank.name; parts = a.blank.parts }

abbrev pub ghosts-copy_again-G-Life : goal.ghosts-copy_again-G-Life
ghosts-copy_again-G-Life g a = record { before = [] }
