use Rattle.std.proofs.Common.{◌≡◌, take}
use Rattle.page_core.specs.PageCounts.{greatest}
use Rattle.page_core.proofs.page_counts.PageCounts.last.Given as goal

abbrev pub invariant-loop-given : goal.invariant-loop-given
invariant-loop-given l = l.count ≡ greatest l.fn.self.first (take l.given-index l.given-items)
