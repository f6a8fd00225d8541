use Rattle.std.proofs.Common.{◌≡◌, map, take}
use Rattle.std.specs.List.{range_with_len}
use Rattle.copy_vault.specs.Chain.{newest}
use Rattle.page_decisions.specs.Slots.{page_list}
use Rattle.copy_vault.proofs.chain.Chain.newest_each.Given as goal

abbrev pub invariant-loop-i : goal.invariant-loop-i
invariant-loop-i l = record {
  so_far : map page_list l.pages.items ≡ map (newest (take l.i l.self)) (range_with_len 0 l.count);
}
