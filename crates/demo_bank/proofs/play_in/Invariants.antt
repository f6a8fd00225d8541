use Rattle.std.specs.Prelude.{[]}
use Rattle.demo_bank.proofs.play_in.Given as goal

abbrev pub ghosts-file_day-G-Ledger : goal.ghosts-file_day-G-Ledger
ghosts-file_day-G-Ledger g a = record { name = a.blank.name; parts = a.blank.parts }

abbrev pub ghosts-file_day-G-Life : goal.ghosts-file_day-G-Life
ghosts-file_day-G-Life g a = record { before = [] }
