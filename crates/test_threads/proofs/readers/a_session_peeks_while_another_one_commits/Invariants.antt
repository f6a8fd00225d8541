use Rattle.std.specs.Prelude.{[]}
use Rattle.test_threads.proofs.readers.a_session_peeks_while_another_one_commits.Given as goal

abbrev pub ghosts-peek_beside-G-Ledger : goal.ghosts-peek_beside-G-Ledger
ghosts-peek_beside-G-Ledger g a = record { name = a.blank.name; parts = a.blank.parts }

abbrev pub ghosts-peek_beside-G-Life : goal.ghosts-peek_beside-G-Life
ghosts-peek_beside-G-Life g a = record { before = [] }
