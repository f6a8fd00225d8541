use Rattle.std.specs.Prelude.{[]}
use Rattle.test_threads.proofs.faults.a_page_that_cannot_be_read_is_repaired.Given as goal

abbrev pub ghosts-repair_page-G-Ledger : goal.ghosts-repair_page-G-Ledger
ghosts-repair_page-G-Ledger g a = record { name = a.blank.name; parts = a.blank.parts }

abbrev pub ghosts-repair_page-G-Life : goal.ghosts-repair_page-G-Life
ghosts-repair_page-G-Life g a = record { before = [] }
