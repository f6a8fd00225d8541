use Rattle.std.proofs.Common.{arith}
use Rattle.copy_vault.proofs.ChainSteps.{places_full}
use Rattle.copy_vault.proofs.cursors.put_row.Goals as goal

pub returns : goal.returns
returns c =
    let past = c.loop-i-test.false in
    let inv = c.loop-i.invariant in
    places_full c.args.cursors.now c.loop-i.row c.args.number inv.count
    (λ k place it lt. inv.full k place it (omega (arith, c.loop-i.auto.i-end)))
