use Rattle.std.specs.Prelude.{[]}
use Rattle.demo_bank.proofs.play.Given as goal

abbrev pub ghosts-day-G-Ledger : goal.ghosts-day-G-Ledger
ghosts-day-G-Ledger g a = record { name = a.blank.name; parts = a.blank.parts }

abbrev pub ghosts-day-G-Life : goal.ghosts-day-G-Life
ghosts-day-G-Life g a = record { before = [] }
