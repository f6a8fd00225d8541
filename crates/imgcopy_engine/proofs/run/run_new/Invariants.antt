use Rattle.std.specs.Prelude.{[]}
use Rattle.imgcopy_engine.proofs.run.run_new.Given as goal

abbrev pub ghosts-new_with-G-Ledger : goal.ghosts-new_with-G-Ledger
ghosts-new_with-G-Ledger g a = record { name = a.blank.name; parts = a.blank.parts }

abbrev pub ghosts-new_with-G-Life : goal.ghosts-new_with-G-Life
ghosts-new_with-G-Life g a = record { before = [] }
