use Rattle.std.proofs.Common.{◌∙◌, map}
use Rattle.page_core.proofs.Public.{if_err, on_ok}
use Rattle.copy_vault.specs.ChainRead.{place_list}
use Rattle.copy_vault.proofs.ChainSteps.{at_hand, hands_row, row_given}
use Rattle.copy_vault.proofs.cursors.give_each.Goals as goal

pub returns-clause-ok : goal.returns-clause-ok
returns-clause-ok g c = on_ok c.read_due.result _ _ (λ step heads inputs copies start.
    let on = c.in_ok-read_first.ensures.ok heads inputs copies start in
    row_given c.args.end c.args.given heads inputs (map g.R.Read.remaining c.read_due.new.readers) c.read_due.new.cursors
    copies on.copies (map place_list c.put_row.new.row) on.same (step heads inputs on.copies on.read)
    (c.put_row.ensures
    ∙ hands_row c.read_first.new.cursors on.copies c.args.given
    (at_hand c.args.end c.args.given heads inputs (map g.R.Read.remaining c.read_first.new.readers)
    c.read_first.new.cursors on.copies on.read))) c.read_due.ensures.ok

pub returns-clause-err : goal.returns-clause-err
returns-clause-err g c = if_err c.read_due.result _ _ (λ fault step heads inputs copies start.
    let on = c.in_ok-read_first.ensures.ok heads inputs copies start in
    step heads inputs on.copies on.read) c.read_due.ensures.err
