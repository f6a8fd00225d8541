use Rattle.page_redo.proofs.Redone.{redo-step}
use Rattle.page_redo.proofs.redo.redo_page.Goals as goal

pub loop-record-preserved : goal.loop-record-preserved
loop-record-preserved c =
    redo-step c.args.page.now c.args.page.now.lsn c.args.records.now c.loop-record.record-index c.record-item.result
    c.loop-record-test.true c.record-item.is c.loop-record.page c.redo_record.new.page c.loop-record.invariant
    c.redo_record.ensures
