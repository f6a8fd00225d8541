use Rattle.std.specs.Prelude.{[]}
use Rattle.test_threads.proofs.settling.a_run_without_one_of_its_sessions_is_not_settled.Given as goal

abbrev pub ghosts-leave_one_out-G-Ledger : goal.ghosts-leave_one_out-G-Ledger
ghosts-leave_one_out-G-Ledger g a = record { name = a.blank.name; parts = a.blank.parts }

abbrev pub ghosts-leave_one_out-G-Life : goal.ghosts-leave_one_out-G-Life
ghosts-leave_one_out-G-Life g a = record { before = [] }
