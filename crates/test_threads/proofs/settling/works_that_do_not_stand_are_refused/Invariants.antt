use Rattle.std.specs.Prelude.{[]}
use Rattle.test_threads.proofs.settling.works_that_do_not_stand_are_refused.Given as goal

abbrev pub ghosts-refuse_works-G-Ledger : goal.ghosts-refuse_works-G-Ledger
ghosts-refuse_works-G-Ledger g a = record { name = a.blank.name; parts = a.blank.parts }

abbrev pub ghosts-refuse_works-G-Life : goal.ghosts-refuse_works-G-Life
ghosts-refuse_works-G-Life g a = record { before = [] }
