use Rattle.std.proofs.Common.{◌≡◌, [], map}
use Rattle.std.specs.List.{range_with_len}
use Rattle.copy_vault.specs.Chain.{newest}
use Rattle.page_decisions.specs.Slots.{page_list}
use Rattle.copy_vault.proofs.chain.no_pages.Given as goal

abbrev pub invariant-loop : goal.invariant-loop
invariant-loop l = map page_list l.pages.items ≡ map (newest []) (range_with_len 0 l.counter)
