use Rattle.std.proofs.Common.{◌≡◌, ℕ, ◌<◌, false, get_or}
use Rattle.log_rules.specs.declared.ckpt_point.CkptPoint.{CkptPoint}
use Rattle.loser_undo.proofs.Completed.{is_named}
use Rattle.loser_undo.proofs.log_changes.LogChanges.has_completed.Given as goal

abbrev pub invariant-loop-checkpoint : goal.invariant-loop-checkpoint
invariant-loop-checkpoint l = (k : ℕ) (d : CkptPoint) → k < l.checkpoint-index
    → is_named l.master.begin l.master.end (get_or l.self.checkpoints k d) ≡ false
