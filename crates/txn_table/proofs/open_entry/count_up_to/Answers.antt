use Rattle.std.proofs.Common.{◌∙◌, ◌+◌, ◌-◌, ◌/◌, ◌<◌, ◌≤◌, ap, sym, length, arith, rules}
use Rattle.log_rules.specs.declared.pending_change.PendingChange.{PendingChange}
use Rattle.txn_table.specs.OpenEntry.{changes_of}
use Rattle.txn_table.proofs.CountsUpTo.{above_middle, below_middle, change_at, same_count}
use Rattle.txn_table.proofs.open_entry.count_up_to.Goals as goal

pub halves-preserved-then-le : goal.halves-preserved-then-le
halves-preserved-then-le c =
    let ps = c.args.pending.now in
    let middle = c.halves.low + (c.halves.high - c.halves.low) / 2 in
    let x = c.index-pending-middle.result in
    let high = c.halves.invariant.within in
    let less = c.halves-test.true in
    let within : middle < length ps = omega arith in
    let low : c.lsn.result ≤ c.args.lsn = search rules in
    record {
      order = omega arith;
      within = high;
      below = below_middle (changes_of ps) middle c.args.lsn c.lsn.result
          (λ d. ap (λ (p : PendingChange). p.lsn) (change_at ps middle x d within c.index-pending-middle.is)
          ∙ sym c.lsn.ensures)
          (omega (arith, within, same_count ps)) low;
      above = c.halves.invariant.above;
    }

pub halves-preserved : goal.halves-preserved
halves-preserved c =
    let ps = c.args.pending.now in
    let middle = c.halves.low + (c.halves.high - c.halves.low) / 2 in
    let x = c.index-pending-middle.result in
    let high = c.halves.invariant.within in
    let less = c.halves-test.true in
    let within : middle < length ps = omega arith in
    let above : c.args.lsn < c.lsn.result = search rules in
    record {
      order = omega arith;
      within = omega arith;
      below = c.halves.invariant.below;
      above = above_middle (changes_of ps) middle c.args.lsn c.lsn.result
          (λ d. ap (λ (p : PendingChange). p.lsn) (change_at ps middle x d within c.index-pending-middle.is)
          ∙ sym c.lsn.ensures) above;
    }
