use Rattle.std.proofs.Common.{◌∙◌, get_or, map, take, ap, sym, subst}
use Rattle.page_redo.specs.Placed.{AreNumberedFrom, Placed, redone_by}
use Rattle.page_redo.proofs.Pieces.{each_more, none_yet, numbered_more}
use Rattle.page_redo.proofs.changes.redo_piece.Goals as goal

pub loop-change-init : goal.loop-change-init
loop-change-init c = none_yet c.args.from c.args.pages.now

pub redo_in_piece-requires : goal.redo_in_piece-requires
redo_in_piece-requires c = record {
  numbered = subst (AreNumberedFrom c.args.first) (sym c.loop-change.invariant)
      (numbered_more c.args.from c.args.first c.args.pages.now
      (take c.loop-change.change-index c.args.changes.now) c.requires.numbered);
}

pub loop-change-preserved : goal.loop-change-preserved
loop-change-preserved c =
    let changes = c.args.changes.now in
    let i = c.loop-change.change-index in
    let d = c.change-item.result in
    c.redo_in_piece.ensures
    ∙ ap (λ (x : Placed). map (λ page. redone_by c.args.from page x) c.loop-change.pages) c.change-item.is
    ∙ ap (map (λ page. redone_by c.args.from page (get_or changes i d))) c.loop-change.invariant
    ∙ each_more c.args.from c.args.pages.now changes i d c.loop-change-test.true
