use Rattle.test_threads.proofs.going_on.a_shared_engine_goes_on_from_an_older_one.Given as goal

abbrev pub ghosts-go_on-G-Ledger : goal.ghosts-go_on-G-Ledger
ghosts-go_on-G-Ledger g a = record { name = a.blank.name; parts = a.blank.parts }

abbrev pub ghosts-go_on-G-Life : goal.ghosts-go_on-G-Life
ghosts-go_on-G-Life g a = record { before = a.engine.state.log }
