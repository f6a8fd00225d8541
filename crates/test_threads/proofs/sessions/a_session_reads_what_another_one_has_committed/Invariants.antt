use Rattle.std.specs.Prelude.{[]}
use Rattle.test_threads.proofs.sessions.a_session_reads_what_another_one_has_committed.Given as goal

abbrev pub ghosts-read_again-G-Ledger : goal.ghosts-read_again-G-Ledger
ghosts-read_again-G-Ledger g a = record { name = a.blank.name; parts = a.blank.parts }

abbrev pub ghosts-read_again-G-Life : goal.ghosts-read_again-G-Life
ghosts-read_again-G-Life g a = record { before = [] }
