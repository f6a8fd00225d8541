use Rattle.std.proofs.Common.{◌∙◌, ◌+◌, ap, subst, sym, take}
use Rattle.log_records.specs.Log.{IsLog, Log, with_next}
use Rattle.page_redo.specs.Placed.{placed_in}
use Rattle.loser_undo.proofs.Keeping.{first_ones, next_one, placed_more, stands_last, valid_last}
use Rattle.loser_undo.proofs.log_changes.ChangesRecordSink.take.Goals as goal

pub keep_change-requires-clause-stands : goal.keep_change-requires-clause-stands
keep_change-requires-clause-stands c =
    let log = c.requires.0 in
    let rs = c.args.next.now in
    let i = c.loop-record.record-index in
    stands_last (with_next log (take i rs)) c.record-item.result
    (subst IsLog (sym (next_one log rs i c.record-item.result c.loop-record-test.true c.record-item.is))
    (first_ones log rs (i + 1) c.requires.1.1))

pub keep_change-requires-clause-valid : goal.keep_change-requires-clause-valid
keep_change-requires-clause-valid c =
    let log = c.requires.0 in
    let rs = c.args.next.now in
    let i = c.loop-record.record-index in
    valid_last (with_next log (take i rs)) c.record-item.result
    (subst IsLog (sym (next_one log rs i c.record-item.result c.loop-record-test.true c.record-item.is))
    (first_ones log rs (i + 1) c.requires.1.1))

pub loop-record-preserved : goal.loop-record-preserved
loop-record-preserved c = λ log is valid.
    let rs = c.args.next.now in
    let i = c.loop-record.record-index in
    let next = next_one log rs i c.record-item.result c.loop-record-test.true c.record-item.is in
    placed_more (with_next log (take i rs)) c.record-item.result c.loop-record.self.list.items _
    (c.loop-record.invariant log is valid) c.in_ok-keep_change.ensures
    ∙ ap (λ (l : Log). placed_in l.records) next
