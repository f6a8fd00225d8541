use Rattle.std.proofs.Common.{◌≡◌, ◌<◌, ℕ}
use Rattle.page_decisions.specs.Decisions.{decision_at}
use Rattle.database_files.specs.Evidence.{KnowsBelow}
use Rattle.database_files.proofs.evidence.ForcedEndEvidence.weigh_copy.Given as goal

abbrev pub invariant-loop-number : goal.invariant-loop-number
invariant-loop-number l = (l.self ≡ l.initial.self)
    × ((p : ℕ) → p < l.number → KnowsBelow l.self.end (decision_at l.copy.pages p))
