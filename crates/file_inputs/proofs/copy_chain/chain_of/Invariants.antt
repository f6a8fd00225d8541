use Rattle.std.proofs.Common.{◌≡◌}
use Rattle.file_inputs.specs.CopyChain.{HasChain, LeadTo, first_or}
use Rattle.file_inputs.proofs.copy_chain.chain_of.Given as goal

abbrev pub invariant-loop-next : goal.invariant-loop-next
invariant-loop-next l = record {
  lead : LeadTo l.headers l.chain.items l.next;
  first : first_or l.chain.items l.next ≡ l.id;
  whole : (l.next ≡ 0 → ⊥) → HasChain l.headers l.id → HasChain l.headers l.next;
}

abbrev pub decreases-loop-next : goal.decreases-loop-next
decreases-loop-next l = l.next
