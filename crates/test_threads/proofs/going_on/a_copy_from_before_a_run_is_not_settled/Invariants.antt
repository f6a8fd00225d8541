use Rattle.test_threads.proofs.going_on.a_copy_from_before_a_run_is_not_settled.Given as goal

abbrev pub ghosts-copy_anew-G-Ledger : goal.ghosts-copy_anew-G-Ledger
ghosts-copy_anew-G-Ledger g a = record { name = a.blank.name; parts = a.blank.parts }

abbrev pub ghosts-copy_anew-G-Life : goal.ghosts-copy_anew-G-Life
ghosts-copy_anew-G-Life g a = record { before = a.engine.state.log }
