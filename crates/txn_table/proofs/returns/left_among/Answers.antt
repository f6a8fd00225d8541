use Rattle.std.proofs.Common.{◌≡◌, ◌∙◌, ◌+◌, ◌-◌, ◌/◌, ◌<◌, arith}
use Rattle.std.proofs.lemmas.Grind.{common_steps}
use Rattle.txn_table.proofs.Searches.{above_middle, below_middle, met_alone}
use Rattle.txn_table.proofs.returns.left_among.Goals as goal

pub returns-then-eq-clause-all : goal.returns-then-eq-clause-all
returns-then-eq-clause-all c = λ rising left there.
    let made = c.args.made.now in
    let middle = c.halves.low + (c.halves.high - c.halves.low) / 2 in
    let x = c.index-made-middle.result in
    let high = c.halves.invariant.within in
    let less = c.halves-test.true in
    let same : x.lsn ≡ c.args.at = grind (arith, common_steps) in
    c.left_by.ensures
    ∙ met_alone made middle c.args.at c.args.txn left x c.index-made-middle.is (omega arith) same rising there

pub halves-preserved-then-lt : goal.halves-preserved-then-lt
halves-preserved-then-lt c =
    let made = c.args.made.now in
    let middle = c.halves.low + (c.halves.high - c.halves.low) / 2 in
    let x = c.index-made-middle.result in
    let high = c.halves.invariant.within in
    let less = c.halves-test.true in
    let low : x.lsn < c.args.at = grind (arith, common_steps) in
    record {
      order = omega arith;
      within = high;
      below = below_middle made middle c.args.at x c.index-made-middle.is (omega arith) low;
      above = c.halves.invariant.above;
    }

pub halves-preserved : goal.halves-preserved
halves-preserved c =
    let made = c.args.made.now in
    let middle = c.halves.low + (c.halves.high - c.halves.low) / 2 in
    let x = c.index-made-middle.result in
    let high = c.halves.invariant.within in
    let less = c.halves-test.true in
    let above : c.args.at < x.lsn = grind (arith, common_steps) in
    record {
      order = omega arith;
      within = omega arith;
      below = c.halves.invariant.below;
      above = above_middle made middle c.args.at x c.index-made-middle.is (omega arith) above;
    }
