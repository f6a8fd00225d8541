use Rattle.std.specs.Prelude.{[]}
use Rattle.test_transactions.proofs.parts.parts_are_refused_that_cannot_be_taken_back.Given as goal

abbrev pub ghosts-refuse_parts-G-Ledger : goal.ghosts-refuse_parts-G-Ledger
ghosts-refuse_parts-G-Ledger g a = record { name = a.blank.name; parts = a.blank.parts }

abbrev pub ghosts-refuse_parts-G-Life : goal.ghosts-refuse_parts-G-Life
ghosts-refuse_parts-G-Life g a = record { before = [] }
