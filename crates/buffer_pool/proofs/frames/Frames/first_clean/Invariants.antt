use Rattle.std.proofs.Common.{◌-◌, length}
use Rattle.buffer_pool.specs.Pool.{is_clean_in}
use Rattle.buffer_pool.proofs.Sought.{AreSeen}
use Rattle.buffer_pool.proofs.frames.Frames.first_clean.Given as goal

abbrev pub invariant-loop-place : goal.invariant-loop-place
invariant-loop-place l = AreSeen (is_clean_in l.states) l.self.slots l.place

abbrev pub decreases-loop-place : goal.decreases-loop-place
decreases-loop-place l = length l.self.slots - l.place
