use Rattle.std.proofs.Common.{◌≤◌, ◌-◌, length}
use Rattle.page_decisions.specs.Decisions.{AreDecidedBelow}
use Rattle.copy_vault.proofs.reading.first_undecided.Given as goal

abbrev pub decreases-loop-next : goal.decreases-loop-next
decreases-loop-next l = length l.slots - l.next

abbrev pub invariant-loop-next : goal.invariant-loop-next
invariant-loop-next l = record {
  within : l.next ≤ length l.slots;
  before : AreDecidedBelow l.next l.slots;
}
