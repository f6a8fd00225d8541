use Rattle.std.specs.Prelude.{[]}
use Rattle.test_threads.proofs.takes.a_copy_takes_no_page_that_was_added_behind_it.Given as goal

abbrev pub ghosts-copy_a_grown_volume-G-Ledger : goal.ghosts-copy_a_grown_volume-G-Ledger
ghosts-copy_a_grown_volume-G-Ledger g a = record { name = a.blank.name; parts = a.blank.parts }

abbrev pub ghosts-copy_a_grown_volume-G-Life : goal.ghosts-copy_a_grown_volume-G-Life
ghosts-copy_a_grown_volume-G-Life g a = record { before = [] }
