use Rattle.std.proofs.Common.{◌≡◌, ◌+◌, ◌-◌, length}
use Rattle.log_store.specs.PageHistory.{AreHistories}
use Rattle.log_store.proofs.page_index.PageIndex.reach.Given as goal

abbrev pub invariant-loop-alloc : goal.invariant-loop-alloc
invariant-loop-alloc l =
    AreHistories l.records (record { seen = l.self-inside.seen; pages = l.self-inside.pages.items })
    × (l.self-inside.seen ≡ l.fn.self.seen)

abbrev pub decreases-loop-alloc : goal.decreases-loop-alloc
decreases-loop-alloc l = l.place + 1 - length l.self-inside.pages.items
