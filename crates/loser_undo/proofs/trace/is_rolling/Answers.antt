use Rattle.std.proofs.Common.{◌≡◌, ◌∙◌, ap, sym}
use Rattle.log_rules.specs.Transactions.{is_rolling}
use Rattle.loser_undo.specs.Losers.{before_comp}
use Rattle.loser_undo.proofs.Traced.{comp_earlier, to_abort_end, to_abort_more, to_abort_stands}
use Rattle.loser_undo.proofs.trace.is_rolling.Goals as goal

pub record_at-requires : goal.record_at-requires
record_at-requires c =
    let rs = c.args.log.now.records in
    let inv = c.comps.invariant in
    to_abort_stands rs (is_rolling rs c.args.one.now.txn) c.comps.at inv.0 inv.1

pub comps-smaller : goal.comps-smaller
comps-smaller c =
    let log = c.args.log.now in
    let inv = c.comps.invariant in
    comp_earlier log c.comps.at c.in-Some.prev c.record_at.result.now c.record_at.ensures.valid
    (to_abort_stands log.records (is_rolling log.records c.args.one.now.txn) c.comps.at inv.0 inv.1)
    c.record_at.ensures.is (sym c.before_comp.ensures ∙ c.in-Some.is)

pub comps-preserved : goal.comps-preserved
comps-preserved c =
    let rs = c.args.log.now.records in
    let inv = c.comps.invariant in
    to_abort_more rs (is_rolling rs c.args.one.now.txn) c.comps.at c.in-Some.prev inv.0 c.record_at.result.now inv.1
    c.record_at.ensures.is (sym c.before_comp.ensures ∙ c.in-Some.is)

pub record_at-requires-2 : goal.record_at-requires-2
record_at-requires-2 c =
    let rs = c.args.log.now.records in
    let inv = c.comps.invariant in
    to_abort_stands rs (is_rolling rs c.args.one.now.txn) c.comps.at inv.0 inv.1

pub returns : goal.returns
returns c =
    let rs = c.args.log.now.records in
    let inv = c.comps.invariant in
    let there = to_abort_stands rs (is_rolling rs c.args.one.now.txn) c.comps.at inv.0 inv.1 in
    let same : c.record_at.result.now ≡ c.record_at-2.result.now =
    c.record_at.ensures.is there.0 there.1 ∙ sym (c.record_at-2.ensures.is there.0 there.1) in
    c.is_abort.ensures
    ∙ to_abort_end rs (is_rolling rs c.args.one.now.txn) c.comps.at inv.0 c.record_at-2.result.now inv.1
    c.record_at-2.ensures.is (sym (ap before_comp same) ∙ sym c.before_comp.ensures ∙ c.in_default.is)
