use Rattle.std.proofs.Common.{◌≡◌, arith, refl, subst}
use Rattle.log_records.specs.declared.limits.TheConstants.{MAX_RECORDS}
use Rattle.imgcopy_engine.specs.Ending.{GoesBack, not_undone, without_end}
use Rattle.imgcopy_engine.proofs.Calling.{goes_on, handed_on, took_one_more, undid}
use Rattle.imgcopy_engine.proofs.ending.roll_back.Goals as goal

pub returns-in_err-undone-clause-refused : goal.returns-in_err-undone-clause-refused
returns-in_err-undone-clause-refused g c =
    handed_on c.from_residual-in_err-undone.result c.in_err-undone.field-0.0 _ c.from_residual-in_err-undone.ensures.1
    (not_undone c.loop.counter c.loop.client c.loop.invariant.back
    (record { call = c.in_err-undone.ensures.called; same = c.in_err-undone.ensures.refused }))

pub loop-preserved : goal.loop-preserved
loop-preserved g c =
    let receipts = g.C.Calls.receipts in
    let so_far = c.loop.invariant.back in
    let one = undid c.args.txn c.in_ok-undone.undone (receipts c.loop.client) (receipts c.undo_step.new.self)
    c.in_default.not-End c.in_ok-undone.ensures.names c.in_ok-undone.ensures.receipt in
    record {
      back = record {
        rolling = so_far.rolling;
        aborts = so_far.aborts;
        undone = took_one_more c.args.txn c.loop.counter one.0 (receipts so_far.rolling) (receipts c.loop.client)
            (receipts c.undo_step.new.self) so_far.undone one.1;
      };
      kept = goes_on (receipts c.args.client.now) (receipts c.loop.client) (receipts c.undo_step.new.self) _
          c.loop.invariant.kept one.1;
    }

pub returns-clause-refused : goal.returns-clause-refused
returns-clause-refused g c =
    let all : c.loop.counter ≡ MAX_RECORDS = omega (arith, c.loop-test.false, c.loop.auto.counter-end) in
    without_end refl
    (subst (λ n. GoesBack g.C.Calls.receipts g.C.Calls.called c.args.txn n c.args.client.now c.loop.client) all
    c.loop.invariant.back)
