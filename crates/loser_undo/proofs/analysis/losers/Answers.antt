use Rattle.std.proofs.Common.{◌∙◌, ap, map, take_all, arith, length, take, sym}
use Rattle.std.proofs.lemmas.List.{length-map, length-take}
use Rattle.loser_undo.proofs.Held.{entry_at, few_losers, listed_all, listed_more, one_open}
use Rattle.loser_undo.proofs.analysis.losers.Goals as goal

pub trace-requires-clause-open : goal.trace-requires-clause-open
trace-requires-clause-open c =
    let same = c.deref-one-items.ensures.value ∙ c.in_ok-open.ensures.open in
    let one = one_open c.args.log.now.records c.deref-one-items.result.now c.loop-one.one-index c.one-item.result same
    c.loop-one-test.true c.one-item.is in
    one.still

pub trace-requires-clause-last : goal.trace-requires-clause-last
trace-requires-clause-last c =
    let same = c.deref-one-items.ensures.value ∙ c.in_ok-open.ensures.open in
    let one = one_open c.args.log.now.records c.deref-one-items.result.now c.loop-one.one-index c.one-item.result same
    c.loop-one-test.true c.one-item.is in
    one.last

pub push-requires : goal.push-requires
push-requires c =
    let rs = c.args.log.now.records in
    let items = c.deref-one-items.result.now in
    let same = c.deref-one-items.ensures.value ∙ c.in_ok-open.ensures.open in
    let so_far = ap length c.loop-one.invariant ∙ length-map (take c.loop-one.one-index items) (entry_at rs) in
    let all = sym (ap length (listed_all rs items same)) ∙ length-map items (entry_at rs) in
    omega (
      arith,
      so_far,
      length-take c.loop-one.one-index items,
      all,
      few_losers rs c.requires.linked,
      c.loop-one-test.true,
    )

pub loop-one-preserved : goal.loop-one-preserved
loop-one-preserved c =
    listed_more c.args.log.now.records c.deref-one-items.result.now c.loop-one.one-index c.one-item.result
    c.loop-one.found c.push.new.self _ c.loop-one-test.true c.one-item.is
    c.loop-one.invariant c.in_ok-trace.ensures c.in_ok-push.ensures.ok

pub returns : goal.returns
returns c =
    let rs = c.args.log.now.records in
    let items = c.deref-one-items.result.now in
    let same = c.deref-one-items.ensures.value ∙ c.in_ok-open.ensures.open in
    c.loop-one.invariant
    ∙ ap (map (entry_at rs)) (take_all c.loop-one.one-index items (omega arith))
    ∙ listed_all rs items same
