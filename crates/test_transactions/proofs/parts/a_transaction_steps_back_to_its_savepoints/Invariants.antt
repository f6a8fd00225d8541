use Rattle.std.specs.Prelude.{[]}
use Rattle.test_transactions.proofs.parts.a_transaction_steps_back_to_its_savepoints.Given as goal

abbrev pub ghosts-go_back-G-Ledger : goal.ghosts-go_back-G-Ledger
ghosts-go_back-G-Ledger g a = record { name = a.blank.name; parts = a.blank.parts }

abbrev pub ghosts-go_back-G-Life : goal.ghosts-go_back-G-Life
ghosts-go_back-G-Life g a = record { before = [] }
