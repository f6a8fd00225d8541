use Rattle.std.specs.Prelude.{[]}
use Rattle.test_transactions.proofs.transactions.a_transaction_commits_at_its_last_try.Given as goal

abbrev pub ghosts-commit_at_the_last_try-G-Ledger : goal.ghosts-commit_at_the_last_try-G-Ledger
ghosts-commit_at_the_last_try-G-Ledger g a = record { name = a.blank.name; parts = a.blank.parts }

abbrev pub ghosts-commit_at_the_last_try-G-Life : goal.ghosts-commit_at_the_last_try-G-Life
ghosts-commit_at_the_last_try-G-Life g a = record { before = [] }
