use Rattle.std.proofs.Common.{◌≡◌, ◌+◌, ◌<◌, ◌∙◌, List, length, ap, sym, subst, arith, take, slice_index_or}
use Rattle.std.proofs.Common.{ℕ}
use Rattle.std.proofs.lemmas.List.{length_push}
use Rattle.log_records.specs.declared.record.Record.{Record}
use Rattle.log_records.specs.PageCount.{count_after, count_behind}
use Rattle.log_records.proofs.Public.{count_behind-next, count_behind-nil}
use Rattle.settlement.proofs.Counted.{counts_more}
use Rattle.settlement.proofs.counted_log.CountedLog.new.Goals as goal

pub loop-record-init : goal.loop-record-init
loop-record-init c = record {
  count = sym (count_behind-nil c.args.first);
  each = ap length c.in_ok-behind.ensures.items;
  counted = λ i lt. absurd (omega arith);
}

pub loop-record-preserved : goal.loop-record-preserved
loop-record-preserved c =
    let rs = c.args.records.now in
    let first = c.args.first in
    let i = c.loop-record.record-index in
    let x = c.record-item.result in
    let so_far = c.loop-record.invariant in
    let before = c.loop-record.behind.items in
    let lt : i < length rs = (let less = c.loop-record-test.true in omega arith) in
    let now : c.count_after-count.result ≡ count_behind first (take (i + 1) rs) =
    c.count_after-count.ensures ∙ ap (λ n. count_after n x) so_far.count
    ∙ ap (λ (r : Record). count_after (count_behind first (take i rs)) r) c.record-item.is
    ∙ sym (count_behind-next first rs i x lt) in
    let pushed = c.in_ok-push.ensures.items in
    record {
      count = now;
      each = ap length pushed ∙ length_push before c.count_after-count.result ∙ ap (λ n. n + 1) so_far.each;
      counted =
          subst (λ (counts : List ℕ). (k : ℕ) → k < i + 1
          → slice_index_or counts k 0 ≡ count_behind first (take (k + 1) rs)) (sym pushed)
          (counts_more first rs i before c.count_after-count.result so_far.each so_far.counted now);
    }
