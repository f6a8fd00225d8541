use Rattle.std.specs.Prelude.{[]}
use Rattle.test_transactions.proofs.transactions.a_transaction_that_is_stopped_is_taken_back.Given as goal

abbrev pub ghosts-stopped-G-Ledger : goal.ghosts-stopped-G-Ledger
ghosts-stopped-G-Ledger g a = record { name = a.blank.name; parts = a.blank.parts }

abbrev pub ghosts-stopped-G-Life : goal.ghosts-stopped-G-Life
ghosts-stopped-G-Life g a = record { before = [] }
