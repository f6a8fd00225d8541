use Rattle.std.specs.Prelude.{[]}
use Rattle.test_threads.proofs.holds.a_page_that_is_added_has_its_turn.Given as goal

abbrev pub ghosts-flush_an_added_page-G-Ledger : goal.ghosts-flush_an_added_page-G-Ledger
ghosts-flush_an_added_page-G-Ledger g a = record { name = a.blank.name; parts = a.blank.parts }

abbrev pub ghosts-flush_an_added_page-G-Life : goal.ghosts-flush_an_added_page-G-Life
ghosts-flush_an_added_page-G-Life g a = record { before = [] }
