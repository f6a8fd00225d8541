use Rattle.std.proofs.Common.{◌+◌, ◌∙◌, ◌++◌, ◌∷◌, [], ℕ, List, ap, length, set, swap, sym}
use Rattle.std.specs.Prelude.{None, Some}
use Rattle.std.proofs.lemmas.List.{length-set}
use Rattle.indexmap.specs.IndexMap.{set_value_at}
use Rattle.page_core.specs.declared.page.TheConstants.{MAX_PAGES}
use Rattle.buffer_pool.proofs.Placed.{Entry, set_last, swapped_last}
use Rattle.buffer_pool.proofs.slots.put_past_hole.Goals as goal

pub returns : goal.returns
returns c =
    let es = c.args.slots.now.entries in
    let last : Entry = (MAX_PAGES + length es, None) in
    let e : Entry = (c.args.number, None) in
    let slot = Some c.args.frame in
    ap (λ (xs : List Entry). set_value_at xs c.len-end.result slot)
    (c.swap_indices.ensures.entries
    ∙ ap (λ (xs : List Entry). swap xs c.args.hole c.len-end.result) c.put_last.ensures)
    ∙ ap (λ (n : ℕ). set_value_at (swap (es ++ (MAX_PAGES + n, None) ∷ []) c.args.hole n) n slot) c.len-end.ensures.len
    ∙ ap (λ (xs : List Entry). set_value_at xs (length es) slot) (swapped_last es c.args.hole e last c.requires.hole)
    ∙ ap (λ (n : ℕ). set_value_at (set es c.args.hole last ++ e ∷ []) n slot) (sym (length-set es c.args.hole last))
    ∙ set_last (set es c.args.hole last) e slot
