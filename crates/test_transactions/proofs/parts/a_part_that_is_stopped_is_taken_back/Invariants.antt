use Rattle.std.specs.Prelude.{[]}
use Rattle.test_transactions.proofs.parts.a_part_that_is_stopped_is_taken_back.Given as goal

abbrev pub ghosts-stop_a_part-G-Ledger : goal.ghosts-stop_a_part-G-Ledger
ghosts-stop_a_part-G-Ledger g a = record { name = a.blank.name; parts = a.blank.parts }

abbrev pub ghosts-stop_a_part-G-Life : goal.ghosts-stop_a_part-G-Life
ghosts-stop_a_part-G-Life g a = record { before = [] }
