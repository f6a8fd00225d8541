use Rattle.std.specs.Prelude.{[]}
use Rattle.test_threads.proofs.desks.all_sessions_wait_at_once.Given as goal

abbrev pub ghosts-wait_at_once-G-Ledger : goal.ghosts-wait_at_once-G-Ledger
ghosts-wait_at_once-G-Ledger g a = record { name = a.blank.name; parts = a.blank.parts }

abbrev pub ghosts-wait_at_once-G-Life : goal.ghosts-wait_at_once-G-Life
ghosts-wait_at_once-G-Life g a = record { before = [] }
