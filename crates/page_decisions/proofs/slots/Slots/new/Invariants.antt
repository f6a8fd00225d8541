use Rattle.std.proofs.Common.{◌≡◌, replicate}
use Rattle.page_decisions.specs.declared.slots.PlacedDecision.TheVariants.{Undecided}
use Rattle.page_decisions.proofs.slots.Slots.new.Given as goal

abbrev pub invariant-loop : goal.invariant-loop
invariant-loop l = l.marks.items ≡ replicate l.counter Undecided
