use Rattle.std.proofs.Common.{true, ◌∙◌, ◌++◌, ◌∷◌, ◌<◌, [], List, ap, subst, sym, arith}
use Rattle.std.proofs.lemmas.List.FromFn.{map-range_with_len_more}
use Rattle.page_core.specs.declared.page.Page.{Page}
use Rattle.page_core.specs.declared.page.TheConstants.{MAX_PAGES}
use Rattle.page_core.specs.Page.{formatted}
use Rattle.page_core.specs.Volume.{formatted_pages}
use Rattle.buffer_pool.specs.Frames.{is_resident}
use Rattle.buffer_pool.proofs.Pools.{next_absent}
use Rattle.buffer_pool.proofs.frames.Frames.formatted.Goals as goal

pub put-requires-clause-within : goal.put-requires-clause-within
unfolding formatted
put-requires-clause-within c =
    let low : c.loop-number.number < MAX_PAGES = omega (arith, c.loop-number-test.true, c.requires) in
    subst (λ (page : Page). page.number < MAX_PAGES) (sym c.formatted.ensures) low

pub put-requires-clause-absent : goal.put-requires-clause-absent
put-requires-clause-absent c =
    ap (λ (pages : List Page). is_resident pages c.formatted.result.number)
    (c.make_room.ensures.same ∙ c.loop-number.invariant.pages)
    ∙ ap (λ (page : Page). is_resident (formatted_pages c.loop-number.number) page.number) c.formatted.ensures
    ∙ next_absent c.loop-number.number

pub loop-number-preserved : goal.loop-number-preserved
loop-number-preserved c = record {
  pages = c.put.ensures.pages
      ∙ ap (λ (pages : List Page). pages ++ c.formatted.result ∷ [])
      (c.make_room.ensures.same ∙ c.loop-number.invariant.pages)
      ∙ ap (λ (page : Page). formatted_pages c.loop-number.number ++ page ∷ []) c.formatted.ensures
      ∙ sym (map-range_with_len_more formatted 0 c.loop-number.number c.loop-number.number (omega arith));
  sought = c.put.ensures.sought (λ _. true) (c.make_room.ensures.sought (λ _. true) c.loop-number.invariant.sought);
}
