use Rattle.std.proofs.Common.{List, [], ◌∷◌, ◌++◌, map, sym, ap, ◌∙◌, arith}
use Rattle.std.specs.Borrow.{Bor}
use Rattle.std.specs.Prelude.{Option, None}
use Rattle.std.proofs.lemmas.List.{map-append}
use Rattle.std.proofs.lemmas.List.FromFn.{map-range_with_len_more}
use Rattle.page_core.specs.declared.page.Page.{Page}
use Rattle.copy_vault.specs.Chain.{newest}
use Rattle.page_decisions.specs.Slots.{page_list}
use Rattle.copy_vault.proofs.chain.no_pages.Goals as goal

pub loop-preserved : goal.loop-preserved
loop-preserved c =
    let n = c.loop.counter in
    ap (λ (xs : List (Option (Bor Page))). map page_list xs) c.in_ok-push.ensures.items
    ∙ map-append page_list c.loop.pages.items (None ∷ [])
    ∙ ap (λ (xs : List (List Page)). xs ++ [] ∷ []) c.loop.invariant
    ∙ sym (map-range_with_len_more (newest []) 0 n n (omega arith))
