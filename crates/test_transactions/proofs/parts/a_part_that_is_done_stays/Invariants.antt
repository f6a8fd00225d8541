use Rattle.std.specs.Prelude.{[]}
use Rattle.test_transactions.proofs.parts.a_part_that_is_done_stays.Given as goal

abbrev pub ghosts-do_a_part-G-Ledger : goal.ghosts-do_a_part-G-Ledger
ghosts-do_a_part-G-Ledger g a = record { name = a.blank.name; parts = a.blank.parts }

abbrev pub ghosts-do_a_part-G-Life : goal.ghosts-do_a_part-G-Life
ghosts-do_a_part-G-Life g a = record { before = [] }
