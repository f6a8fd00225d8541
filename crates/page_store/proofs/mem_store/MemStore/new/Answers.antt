use Rattle.std.proofs.Common.{[], ◌∙◌, ap, arith, length, subst, sym}
use Rattle.page_core.specs.Volume.{AreNumbered, grown_to}
use Rattle.page_core.proofs.Public.{length-grown_to, new_grown, numbered-formatted_pages}
use Rattle.page_store.proofs.mem_store.MemStore.new.Goals as goal

pub returns : goal.returns
returns c =
    c.grow_reserved.ensures.grown
    ∙ ap (grown_to c.args.pages) c.in_ok-stored.ensures.items
    ∙ new_grown 0 c.args.pages (omega arith)

pub invariant_of-result : goal.invariant_of-result
invariant_of-result c =
    let none = c.in_ok-stored.ensures.items in
    let long = ap length c.grow_reserved.ensures.grown ∙ ap (λ l. length (grown_to c.args.pages l)) none
    ∙ length-grown_to c.args.pages [] in
    let room = c.in_ok-stored.ensures.exact in
    let kept = c.grow_reserved.ensures.room in (
      omega (arith, long),
      omega (arith, room, kept),
      c.grow_reserved.ensures.numbered (subst AreNumbered (sym none) (numbered-formatted_pages 0)),
    )
