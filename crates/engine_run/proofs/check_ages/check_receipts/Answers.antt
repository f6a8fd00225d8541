use Rattle.std.proofs.Common.{◌≡◌, ◌+◌, ◌++◌, ◌≤◌, List, ap, arith, subst, sym, ◌∙◌, slice_index_or, take}
use Rattle.std.specs.List.{All}
use Rattle.std.proofs.lemmas.List.{take_all}
use Rattle.settlement.specs.Receipt.{times, written}
use Rattle.settlement.specs.Sessions.{all_receipts}
use Rattle.settlement.specs.declared.receipt.Receipt.{Receipt}
use Rattle.settlement.proofs.Public.{times-append}
use Rattle.settlement.proofs.Public.{all_more, times_sessions}
use Rattle.engine_run.proofs.check_ages.check_receipts.Goals as goal

pub returns-in-Err-clause-err : goal.returns-in-Err-clause-err
returns-in-Err-clause-err g c =
    let sessions = c.args.sessions.now in
    let i = c.loop-session.session-index in
    let xs = c.receipts.result.now in
    let at = c.in-Err.at in
    let is : xs ≡ slice_index_or sessions i xs =
    subst (λ (ys : List Receipt). ys ≡ slice_index_or sessions i ys) (sym c.receipts.ensures)
    c.session-item.is in
    let told = c.in-Err.ensures.err in
    let both : times at (written (all_receipts (take (i + 1) sessions)))
    ≡ times at (written (all_receipts (take i sessions))) + times at (written xs) =
    ap (times at) (all_more sessions i xs c.loop-session-test.true)
    ∙ ap (λ (ys : List Receipt). times at (written (all_receipts (take i sessions)) ++ written ys)) (sym is)
    ∙ times-append at (written (all_receipts (take i sessions))) (written xs) in
    let part = times_sessions at (i + 1) sessions in
    (told.0, omega (arith, told.1, both, part))

pub returns-clause-ok : goal.returns-clause-ok
returns-clause-ok g c =
    let past = c.loop-session-test.false in
    let all = take_all c.loop-session.session-index c.args.sessions.now (omega arith) in
    subst (λ (ss : List (List Receipt)). All (λ lsn. c.args.bound ≤ lsn) (written (all_receipts ss))) all
    c.loop-session.invariant
