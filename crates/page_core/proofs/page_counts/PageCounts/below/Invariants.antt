use Rattle.std.proofs.Common.{◌≡◌, filter, take}
use Rattle.std.specs.Prelude.{nat_lt}
use Rattle.page_core.specs.PageCounts.{greatest}
use Rattle.page_core.proofs.page_counts.PageCounts.below.Given as goal

abbrev pub invariant-loop-given : goal.invariant-loop-given
invariant-loop-given l = l.count ≡ greatest l.fn.self.first
    (filter (λ g. nat_lt g.lsn l.fn.lsn) (take l.given-index l.given-items))
