use Rattle.std.proofs.Common.{◌∙◌, ap, arith, length}
use Rattle.page_core.proofs.Public.{length-grown_to}
use Rattle.page_store.proofs.mem_store.MemStorePageStore.grow.Goals as goal

pub invariant_of-self : goal.invariant_of-self
invariant_of-self c =
    let long = ap length c.grow_reserved.ensures.grown ∙ length-grown_to c.args.count c.self.inside.pages.items in
    let was = c.self.invariant in
    let kept = c.grow_reserved.ensures.room in (
      omega (arith, long, was.0, c.requires),
      omega (arith, was.1, kept),
      c.grow_reserved.ensures.numbered was.2,
    )

pub returns-clause-enough : goal.returns-clause-enough
returns-clause-enough c =
    let long = ap length c.grow_reserved.ensures.grown ∙ length-grown_to c.args.count c.self.inside.pages.items in
    omega (arith, long)
