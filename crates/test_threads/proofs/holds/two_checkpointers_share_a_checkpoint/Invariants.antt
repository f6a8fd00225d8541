use Rattle.std.specs.Prelude.{[]}
use Rattle.test_threads.proofs.holds.two_checkpointers_share_a_checkpoint.Given as goal

abbrev pub ghosts-checkpoint_by_two-G-Ledger : goal.ghosts-checkpoint_by_two-G-Ledger
ghosts-checkpoint_by_two-G-Ledger g a = record { name = a.blank.name; parts = a.blank.parts }

abbrev pub ghosts-checkpoint_by_two-G-Life : goal.ghosts-checkpoint_by_two-G-Life
ghosts-checkpoint_by_two-G-Life g a = record { before = [] }
