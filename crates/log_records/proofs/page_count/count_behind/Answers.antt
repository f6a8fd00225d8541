use Rattle.std.proofs.Common.{◌≡◌, ◌<◌, ◌+◌, ◌∙◌, ap, sym, arith, length, take}
use Rattle.log_records.specs.declared.record.Record.{Record}
use Rattle.log_records.specs.PageCount.{count_after, count_behind}
use Rattle.log_records.proofs.PageCounts.{count_behind-next, count_behind-nil}
use Rattle.log_records.proofs.page_count.count_behind.Goals as goal

pub loop-record-init : goal.loop-record-init
loop-record-init c = sym (count_behind-nil c.args.count)

pub loop-record-preserved : goal.loop-record-preserved
loop-record-preserved c =
    let rs = c.args.records.now in
    let i = c.loop-record.record-index in
    let x = c.record-item.result in
    let lt : i < length rs = (let less = c.loop-record-test.true in omega arith) in
    c.count_after-last.ensures ∙ ap (λ n. count_after n x) c.loop-record.invariant
    ∙ ap (λ (r : Record). count_after (count_behind c.args.count (take i rs)) r) c.record-item.is
    ∙ sym (count_behind-next c.args.count rs i x lt)
