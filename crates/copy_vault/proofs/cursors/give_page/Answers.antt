use Rattle.std.proofs.Common.{map}
use Rattle.std.proofs.lemmas.Result.{err_from_is_err_and}
use Rattle.copy_vault.proofs.ChainSteps.{at_hand, page_given}
use Rattle.copy_vault.proofs.cursors.give_page.Goals as goal

pub returns-in_err-read_due-clause-err : goal.returns-in_err-read_due-clause-err
returns-in_err-read_due-clause-err g c =
    let p = err_from_is_err_and c.from_residual-in_err-read_due.result c.from_residual-in_err-read_due.ensures.1 in
    rw (p.1, p.2) (λ heads inputs copies start.
    let on = c.in_ok-read_first.ensures.ok heads inputs copies start in
    c.in_err-read_due.ensures.err heads inputs on.copies on.read)

pub returns-clause-ok : goal.returns-clause-ok
returns-clause-ok g c = λ heads inputs copies start.
    let on = c.in_ok-read_first.ensures.ok heads inputs copies start in
    let further = c.in_ok-read_due.ensures.ok heads inputs on.copies on.read in
    page_given c.args.end c.args.given heads inputs (map g.R.Read.remaining c.read_due.new.readers)
    c.read_due.new.cursors copies on.copies c.page_at_hand-page.result on.same further
    (c.page_at_hand-page.ensures on.copies
    (at_hand c.args.end c.args.given heads inputs (map g.R.Read.remaining c.read_first.new.readers)
    c.read_first.new.cursors on.copies on.read))
