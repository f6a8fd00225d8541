use Rattle.std.proofs.Common.{◌≡◌, ◌+◌, ◌++◌, ◌≤◌, ◌∷◌, ℕ, false, List, [], ap, arith, subst, sym, ◌∙◌, take}
use Rattle.std.specs.List.{All}
use Rattle.std.proofs.lemmas.List.{take_all}
use Rattle.settlement.specs.Receipt.{is_read, position, times, written}
use Rattle.settlement.specs.declared.receipt.Receipt.{Receipt}
use Rattle.settlement.proofs.Marking.{times-append, written_more}
use Rattle.settlement.proofs.Sessions.{times_first, times_one}
use Rattle.settlement.proofs.age.check_age.Goals as goal

-- its LSN is there
pub returns-then-at-bound-clause-err : goal.returns-then-at-bound-clause-err
returns-then-at-bound-clause-err c =
    let xs = c.args.receipts.now in
    let i = c.loop-receipt.receipt-index in
    let x = c.receipt-item.result in
    let at = c.position-at.result in
    let no_read : is_read x ≡ false = sym c.is_read.ensures ∙ c.if-not-is_read.true in
    let more : written (take (i + 1) xs) ≡ written (take i xs) ++ at ∷ [] =
    written_more xs i x c.loop-receipt-test.true (ap is_read (sym c.receipt-item.is) ∙ no_read)
    ∙ ap (λ (y : Receipt). written (take i xs) ++ position y ∷ []) (sym c.receipt-item.is)
    ∙ ap (λ (n : ℕ). written (take i xs) ++ n ∷ []) (sym c.position-at.ensures) in
    let both : times at (written (take (i + 1) xs)) ≡ times at (written (take i xs)) + 1 =
    ap (times at) more ∙ times-append at (written (take i xs)) (at ∷ [])
    ∙ ap (λ (n : ℕ). times at (written (take i xs)) + n) (times_one at) in
    let part = times_first at (i + 1) xs in
    (omega (arith, c.if-at-bound.true, c.at.view_is, c.bound.view_is), omega (arith, both, part))

pub returns-clause-ok : goal.returns-clause-ok
returns-clause-ok c =
    let past = c.loop-receipt-test.false in
    let all = take_all c.loop-receipt.receipt-index c.args.receipts.now (omega arith) in
    subst (λ (xs : List Receipt). All (λ lsn. c.args.bound ≤ lsn) (written xs)) all c.loop-receipt.invariant
