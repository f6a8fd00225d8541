use Rattle.std.specs.Prelude.{[]}
use Rattle.test_threads.proofs.settling.copies_that_come_twice_are_refused.Given as goal

abbrev pub ghosts-refuse_copies-G-Ledger : goal.ghosts-refuse_copies-G-Ledger
ghosts-refuse_copies-G-Ledger g a = record { name = a.blank.name; parts = a.blank.parts }

abbrev pub ghosts-refuse_copies-G-Life : goal.ghosts-refuse_copies-G-Life
ghosts-refuse_copies-G-Life g a = record { before = [] }
