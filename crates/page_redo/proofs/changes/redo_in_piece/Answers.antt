use Rattle.std.proofs.Common.{◌≡◌, ◌∙◌, ◌+◌, ◌-◌, get_or, arith}
use Rattle.std.proofs.lemmas.Bool.{le-leb, lt-leb}
use Rattle.page_redo.proofs.Pieces.{none_redone, set_left, set_redone}
use Rattle.page_redo.proofs.changes.redo_in_piece.Goals as goal
use Rattle.page_redo.proofs.changes.redo_in_piece.Goals.{else-first-number-via-else-first-number}
use Rattle.page_redo.proofs.changes.redo_in_piece.Goals.{else-first-number-via-then-first-number+else-number-first}

pub returns-then-from-lsn : goal.returns-then-from-lsn
returns-then-from-lsn c =
    let first = c.args.first in
    let at = c.number.inside.0 - first in
    let number : c.number.inside.0 ≡ c.args.change.now.page = c.number.view_is ∙ c.page.ensures in
    let low = c.if-first-number.true in
    let here : first + at ≡ c.args.change.now.page = omega arith in
    let reached = le-leb c.args.from c.args.change.now.lsn (omega (arith, c.if-from-lsn.true, c.lsn.ensures)) in
    set_redone c.args.from first at c.args.pages.now c.args.change.now c.index-pages-number.result c.requires.numbered
    c.if-number-first.true here reached c.redo_above.new.page c.redo_above.ensures

pub returns-else-from-lsn : goal.returns-else-from-lsn
returns-else-from-lsn c =
    let first = c.args.first in
    let at = c.number.inside.0 - first in
    let number : c.number.inside.0 ≡ c.args.change.now.page = c.number.view_is ∙ c.page.ensures in
    let low = c.if-first-number.true in
    let here : first + at ≡ c.args.change.now.page = omega arith in
    let below = lt-leb c.args.from c.args.change.now.lsn (omega (arith, c.if-from-lsn.false, c.lsn.ensures)) in
    set_left c.args.from first at c.args.pages.now c.args.change.now c.index-pages-number.result c.requires.numbered
    c.if-number-first.true here below

pub returns-else-first-number : goal.returns-else-first-number
returns-else-first-number c =
    let pages = c.args.pages.now in
    let first = c.args.first in
    let number : c.number.inside.0 ≡ c.args.change.now.page = c.number.view_is ∙ c.page.ensures in
    none_redone c.args.from pages c.args.change.now (λ k d lt same.
    let at : (get_or pages k d).number ≡ first + k = c.requires.numbered k d lt in
    elim c.else-first-number.branch [
      | else-first-number-via-then-first-number+else-number-first w ↦
          let past = w.if-number-first.false in omega arith
      | else-first-number-via-else-first-number w ↦ let before = w.if-first-number.false in omega arith
    ])
