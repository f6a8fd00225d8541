use Rattle.std.proofs.Common.{◌≡◌, ◌≤◌}
use Rattle.buffer_pool.specs.Pool.{is_clean_in}
use Rattle.buffer_pool.proofs.Sought.{AreMarkedTo}
use Rattle.buffer_pool.proofs.frames.Frames.squeeze.Given as goal

abbrev pub invariant-loop-place : goal.invariant-loop-place
invariant-loop-place l = record {
  slots : l.self.slots ≡ l.initial.self.slots;
  pages : l.self.pages ≡ l.fn.self.pages;
  room : l.fn.self.room ≤ l.self.room;
  marked : AreMarkedTo (is_clean_in l.states) l.self.slots l.self.marks l.place;
}
