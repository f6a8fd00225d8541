use Rattle.std.proofs.Common.{◌-◌, length}
use Rattle.log_store.specs.PageHistory.{AreHistories}
use Rattle.log_store.proofs.page_index.PageIndex.catch_up.Given as goal

abbrev pub invariant-loop-self : goal.invariant-loop-self
invariant-loop-self l = AreHistories l.records l.self

abbrev pub decreases-loop-self : goal.decreases-loop-self
decreases-loop-self l = length l.records - l.self.seen
