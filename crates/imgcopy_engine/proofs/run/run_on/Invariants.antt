use Rattle.imgcopy_engine.proofs.run.run_on.Given as goal

abbrev pub ghosts-on_with-G-Ledger : goal.ghosts-on_with-G-Ledger
ghosts-on_with-G-Ledger g a = record { name = a.blank.name; parts = a.blank.parts }

abbrev pub ghosts-on_with-G-Life : goal.ghosts-on_with-G-Life
ghosts-on_with-G-Life g a = record { before = a.engine.state.log }
