use Rattle.std.proofs.Common.{◌≡◌, ◌≤◌, List, [], length, drop}
use Rattle.copy_vault.specs.Chain.{takings}
use Rattle.copy_vault.specs.ChainRead.{AreAtHand}
use Rattle.copy_vault.specs.Copy.{CopyView}
use Rattle.copy_vault.proofs.cursors.page_at_hand.Given as goal

abbrev pub invariant-loop-later : goal.invariant-loop-later
invariant-loop-later l = record {
  within : l.later ≤ length l.cursors;
  none : (copies : List CopyView) → AreAtHand l.cursors l.number copies → takings (drop l.later copies) l.number ≡ [];
}

abbrev pub decreases-loop-later : goal.decreases-loop-later
decreases-loop-later l = l.later
