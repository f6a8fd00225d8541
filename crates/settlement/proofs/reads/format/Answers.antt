use Rattle.std.proofs.Common.{◌∙◌, ap, sym, arith, List, ◌++◌, ◌∷◌, [], map}
use Rattle.std.specs.List.{range_with_len}
use Rattle.page_core.specs.Volume.{formatted_pages}
use Rattle.std.proofs.lemmas.List.{length-set, take_all, take_more_set}
use Rattle.std.proofs.lemmas.List.FromFn.{map-range_with_len_more}
use Rattle.page_core.specs.declared.page.Page.{Page}
use Rattle.page_core.specs.Page.{formatted}
use Rattle.settlement.proofs.reads.format.Goals as goal

pub loop-i-preserved : goal.loop-i-preserved
loop-i-preserved c =
    let pages = c.loop-i.pages in
    let i = c.loop-i.i in
    let x = c.formatted.result in
    let so_far = c.loop-i.invariant in (
      length-set pages i x ∙ so_far.0,
      take_more_set pages i x (let long = so_far.0 in let lt = c.loop-i-test.true in omega arith)
          ∙ ap (λ (xs : List Page). xs ++ x ∷ []) so_far.1
          ∙ ap (λ (page : Page). map formatted (range_with_len 0 i) ++ page ∷ []) c.formatted.ensures
          ∙ sym (map-range_with_len_more formatted 0 i i (omega arith)),
    )

pub returns : goal.returns
returns c =
    let i = c.loop-i.i in
    let so_far = c.loop-i.invariant in
    sym (take_all i c.loop-i.pages (let long = so_far.0 in let done = c.loop-i-test.false in omega arith))
    ∙ so_far.1 ∙ ap formatted_pages (let long = so_far.0 in let done = c.loop-i-test.false in let top = c.loop-i.auto.i-end in omega arith)
