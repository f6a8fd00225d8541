use Rattle.std.proofs.Common.{map, subst, arith}
use Rattle.page_core.proofs.Public.{if_err, on_ok}
use Rattle.copy_vault.specs.ChainRead.{AreRead}
use Rattle.copy_vault.proofs.ChainSteps.{first_moment, all_on, on_later}
use Rattle.copy_vault.proofs.cursors.read_first.Goals as goal

pub returns-then-given-gt0-clause-ok : goal.returns-then-given-gt0-clause-ok
returns-then-given-gt0-clause-ok g c = λ heads inputs copies start.
    on_later c.args.end c.args.given heads inputs (map g.R.Read.remaining c.args.readers.now) c.args.cursors.now copies
    c.if-given-gt0.true start

pub returns-clause-ok : goal.returns-clause-ok
returns-clause-ok g c = on_ok c.read_due.result _ _ (λ step heads inputs copies start.
    let none = c.if-given-gt0.false in
    all_on c.args.end c.args.given heads inputs (map g.R.Read.remaining c.read_due.new.readers) c.read_due.new.cursors
    copies (omega arith)
    (step heads inputs copies (subst (λ n. AreRead c.args.end n 0 heads inputs
    (map g.R.Read.remaining c.args.readers.now) c.args.cursors.now copies) (first_moment c.args.given (omega arith))
    start))) c.read_due.ensures.ok

pub returns-clause-err : goal.returns-clause-err
returns-clause-err g c = if_err c.read_due.result _ _ (λ fault step heads inputs copies start.
    let none = c.if-given-gt0.false in
    step heads inputs copies (subst (λ n. AreRead c.args.end n 0 heads inputs
    (map g.R.Read.remaining c.args.readers.now) c.args.cursors.now copies) (first_moment c.args.given (omega arith))
    start)) c.read_due.ensures.err
