use Rattle.std.specs.Prelude.{[]}
use Rattle.test_threads.proofs.desks.a_session_is_given_back_and_taken_anew.Given as goal

abbrev pub ghosts-share_a_session-G-Ledger : goal.ghosts-share_a_session-G-Ledger
ghosts-share_a_session-G-Ledger g a = record { name = a.blank.name; parts = a.blank.parts }

abbrev pub ghosts-share_a_session-G-Life : goal.ghosts-share_a_session-G-Life
ghosts-share_a_session-G-Life g a = record { before = [] }
