use Rattle.std.proofs.Common.{◌≡◌, ◌∙◌, ◌<◌, List, length, map, ap, arith, subst, sym}
use Rattle.std.specs.List.Sorted.{IsNonDecreasingBy}
use Rattle.std.proofs.lemmas.List.{length-map, same_lists}
use Rattle.page_redo.specs.Placed.{Placed, redone_each}
use Rattle.page_redo.proofs.Pieces.{in_piece, same_redone}
use Rattle.page_redo.proofs.Rising.{all_resumed, changes_rise}
use Rattle.page_redo.proofs.changes.redo_changes.Goals as goal

pub returns-then-left-lt-MANY_CHANGES : goal.returns-then-left-lt-MANY_CHANGES
returns-then-left-lt-MANY_CHANGES g c = λ log valid is.
    c.redo_piece.ensures
    ∙ same_redone c.args.from c.changes_from-left.result.now c.args.changes.now c.args.pages.now
    (c.changes_from-left.ensures (subst (IsNonDecreasingBy (λ (x : Placed). x.lsn)) (sym is) (changes_rise log valid)))
    ∙ ap (λ (changes : List Placed). map (redone_each changes c.args.from) c.args.pages.now) is
    ∙ all_resumed log c.args.from c.args.pages.now valid

pub returns : goal.returns
returns g c = λ log valid is.
    let pages = c.args.pages.now in
    let left = c.changes_from-left.result.now in
    let new = c.par_chunks_mut_for_each.new.s in
    let step = redone_each left c.args.from in
    let long : length new ≡ length pages = c.par_chunks_mut_for_each.auto.s in
    let again = length-map pages step in
    same_lists new (map step pages) (omega arith) (λ k d lt.
    let below : k < length pages = omega arith in
    let at = (c.par_chunks_mut_for_each.ensures.by_index k d below).1 in
    in_piece step pages new at.argument.now at.after_call.now k at.offset d below at.offset_in_chunk at.old_element
    at.call at.new_element)
    ∙ same_redone c.args.from left c.args.changes.now pages
    (c.changes_from-left.ensures (subst (IsNonDecreasingBy (λ (x : Placed). x.lsn)) (sym is) (changes_rise log valid)))
    ∙ ap (λ (xs : List Placed). map (redone_each xs c.args.from) pages) is
    ∙ all_resumed log c.args.from pages valid
