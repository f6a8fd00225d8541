use Rattle.std.specs.Prelude.{[]}
use Rattle.test_transactions.proofs.transactions.an_unsure_commit_is_told.Given as goal

abbrev pub ghosts-unsure-G-Ledger : goal.ghosts-unsure-G-Ledger
ghosts-unsure-G-Ledger g a = record { name = a.blank.name; parts = a.blank.parts }

abbrev pub ghosts-unsure-G-Life : goal.ghosts-unsure-G-Life
ghosts-unsure-G-Life g a = record { before = [] }
