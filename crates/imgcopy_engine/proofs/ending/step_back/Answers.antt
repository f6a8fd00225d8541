use Rattle.imgcopy_engine.specs.Ending.{refused}
use Rattle.imgcopy_engine.proofs.Calling.{handed_on, stepped_back, took_one_more}
use Rattle.imgcopy_engine.proofs.ending.step_back.Goals as goal

pub returns-in_err-undo_to-clause-refused : goal.returns-in_err-undo_to-clause-refused
returns-in_err-undo_to-clause-refused g c =
    handed_on c.from_residual.result c.in_err-undo_to.field-0.0 _ c.from_residual.ensures.1
    (refused c.loop.counter c.loop.client c.loop.invariant
    (record { call = c.in_err-undo_to.ensures.called; same = c.in_err-undo_to.ensures.refused }))

pub loop-preserved : goal.loop-preserved
loop-preserved g c =
    let receipts = g.C.Calls.receipts in
    let one = stepped_back c.args.txn c.in_ok-undo_to.field-0 (receipts c.loop.client) (receipts c.undo_to.new.self)
    c.in_default.not-Reached c.in_ok-undo_to.ensures.receipt in
    took_one_more c.args.txn c.loop.counter one.0 (receipts c.args.client.now) (receipts c.loop.client)
    (receipts c.undo_to.new.self) c.loop.invariant one.1
