use Rattle.std.specs.Prelude.{[]}
use Rattle.test_threads.proofs.holds.gates_are_told_the_page_of_a_hold.Given as goal

abbrev pub ghosts-tell_gates-G-Ledger : goal.ghosts-tell_gates-G-Ledger
ghosts-tell_gates-G-Ledger g a = record { name = a.blank.name; parts = a.blank.parts }

abbrev pub ghosts-tell_gates-G-Life : goal.ghosts-tell_gates-G-Life
ghosts-tell_gates-G-Life g a = record { before = [] }
