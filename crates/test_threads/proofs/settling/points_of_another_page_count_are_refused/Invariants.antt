use Rattle.std.specs.Prelude.{[]}
use Rattle.test_threads.proofs.settling.points_of_another_page_count_are_refused.Given as goal

abbrev pub ghosts-refuse_page_counts-G-Ledger : goal.ghosts-refuse_page_counts-G-Ledger
ghosts-refuse_page_counts-G-Ledger g a = record { name = a.blank.name; parts = a.blank.parts }

abbrev pub ghosts-refuse_page_counts-G-Life : goal.ghosts-refuse_page_counts-G-Life
ghosts-refuse_page_counts-G-Life g a = record { before = [] }
