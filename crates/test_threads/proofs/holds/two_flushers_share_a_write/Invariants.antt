use Rattle.std.specs.Prelude.{[]}
use Rattle.test_threads.proofs.holds.two_flushers_share_a_write.Given as goal

abbrev pub ghosts-flush_by_two-G-Ledger : goal.ghosts-flush_by_two-G-Ledger
ghosts-flush_by_two-G-Ledger g a = record { name = a.blank.name; parts = a.blank.parts }

abbrev pub ghosts-flush_by_two-G-Life : goal.ghosts-flush_by_two-G-Life
ghosts-flush_by_two-G-Life g a = record { before = [] }
