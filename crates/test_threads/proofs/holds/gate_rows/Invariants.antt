use Rattle.std.specs.Prelude.{[]}
use Rattle.test_threads.proofs.holds.gate_rows.Given as goal

abbrev pub ghosts-change_behind_the_cursor-G-Ledger : goal.ghosts-change_behind_the_cursor-G-Ledger
ghosts-change_behind_the_cursor-G-Ledger g a = record { name = a.blank.name; parts = a.blank.parts }

abbrev pub ghosts-change_behind_the_cursor-G-Life : goal.ghosts-change_behind_the_cursor-G-Life
ghosts-change_behind_the_cursor-G-Life g a = record { before = [] }

abbrev pub ghosts-change_during_a_write-G-Ledger : goal.ghosts-change_during_a_write-G-Ledger
ghosts-change_during_a_write-G-Ledger g a = record { name = a.blank.name; parts = a.blank.parts }

abbrev pub ghosts-change_during_a_write-G-Life : goal.ghosts-change_during_a_write-G-Life
ghosts-change_during_a_write-G-Life g a = record { before = [] }

abbrev pub ghosts-repair_during_a_write-G-Ledger : goal.ghosts-repair_during_a_write-G-Ledger
ghosts-repair_during_a_write-G-Ledger g a = record { name = a.blank.name; parts = a.blank.parts }

abbrev pub ghosts-repair_during_a_write-G-Life : goal.ghosts-repair_during_a_write-G-Life
ghosts-repair_during_a_write-G-Life g a = record { before = [] }
