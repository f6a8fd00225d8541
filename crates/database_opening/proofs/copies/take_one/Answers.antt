use Rattle.std.proofs.Common.{inr, subst}
use Rattle.std.proofs.lemmas.Bool.{false≢true}
use Rattle.std.specs.Prelude.{IsTrue}
use Rattle.database_opening.specs.Copies.{not_added}
use Rattle.database_opening.proofs.copies.take_one.Goals as goal

pub returns-else-is_of_memory-clause-judged : goal.returns-else-is_of_memory-clause-judged
returns-else-is_of_memory-clause-judged c = inr (
  not_added c.in-Err.fault (λ of. false≢true (subst IsTrue c.if-is_of_memory.false (c.is_of_memory.ensures.1 of)))
      c.in-Err.ensures.why,
  c.in-Err.ensures.same,
)
