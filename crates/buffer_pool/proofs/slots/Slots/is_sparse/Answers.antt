use Rattle.std.proofs.Common.{arith}
use Rattle.std.specs.Map.{values_of}
use Rattle.std.proofs.lemmas.Map.Entries.{length-values_of}
use Rattle.buffer_pool.proofs.Placed.{pages_most}
use Rattle.buffer_pool.proofs.slots.Slots.is_sparse.Goals as goal

pub overflow_sub-result : goal.overflow_sub-result
overflow_sub-result c =
    let es = c.self.inside.slots.entries in
    omega (arith, pages_most (values_of es), c.self.invariant.1.pages, c.len.ensures.len, length-values_of es)
