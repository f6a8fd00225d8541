use Rattle.std.proofs.Common.{◌≡◌, ◌-◌, ◌++◌, length, replicate, take}
use Rattle.buffer_pool.specs.Pool.{stored_states, unwritten}
use Rattle.buffer_pool.proofs.page_states.PageStates.stored.Given as goal

-- the pages so far have their states, and the others are not written
abbrev pub invariant-loop-index : goal.invariant-loop-index
invariant-loop-index l = record {
  states : l.states ≡ stored_states (take l.index l.pages)
      ++ replicate (length l.pages - l.index) unwritten;
}
