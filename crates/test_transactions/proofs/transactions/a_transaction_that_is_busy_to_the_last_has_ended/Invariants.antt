use Rattle.std.specs.Prelude.{[]}
use Rattle.test_transactions.proofs.transactions.a_transaction_that_is_busy_to_the_last_has_ended.Given as goal

abbrev pub ghosts-busy_to_the_last_try-G-Ledger : goal.ghosts-busy_to_the_last_try-G-Ledger
ghosts-busy_to_the_last_try-G-Ledger g a = record { name = a.blank.name; parts = a.blank.parts }

abbrev pub ghosts-busy_to_the_last_try-G-Life : goal.ghosts-busy_to_the_last_try-G-Life
ghosts-busy_to_the_last_try-G-Life g a = record { before = [] }
