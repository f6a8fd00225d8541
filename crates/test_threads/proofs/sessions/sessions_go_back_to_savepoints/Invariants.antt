use Rattle.std.specs.Prelude.{[]}
use Rattle.test_threads.proofs.sessions.sessions_go_back_to_savepoints.Given as goal

abbrev pub ghosts-play-G-Ledger : goal.ghosts-play-G-Ledger
ghosts-play-G-Ledger g a = record { name = a.blank.name; parts = a.blank.parts }

abbrev pub ghosts-play-G-Life : goal.ghosts-play-G-Life
ghosts-play-G-Life g a = record { before = [] }
