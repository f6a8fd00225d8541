use Rattle.std.proofs.Common.{◌≡◌}
use Rattle.database_files.proofs.Weighed.{Weighing}
use Rattle.database_files.proofs.evidence.ForcedEndEvidence.weigh_copies.Given as goal

abbrev pub invariant-loop-file : goal.invariant-loop-file
invariant-loop-file l = (l.self.end ≡ l.initial.self.end)
    × Weighing l.self.end l.copies l.file-index l.initial.self.claims.items l.self.claims.items
