use Rattle.std.proofs.Common.{List, inr, subst}
use Rattle.settlement.specs.declared.receipt.Receipt.{Receipt}
use Rattle.imgcopy_engine.specs.Ending.{Goes}
use Rattle.imgcopy_engine.proofs.Calling.{none_left}
use Rattle.imgcopy_engine.proofs.ending.commit.Goals as goal

pub returns-in_default : goal.returns-in_default
returns-in_default g c =
    let known = c.in_default.not-CommitUnsure in
    let same = none_left c.args.txn c.in-Err.why (g.C.Calls.receipts c.args.client.now)
    (g.C.Calls.receipts c.commit.new.self) known c.in-Err.ensures.refused in
    record {
      committed = tt;
      refused = inr (
        c.in-Err.why,
        record {
          known = known;
          asked = c.commit.new.self;
          refused = record { call = c.in-Err.ensures.called; same = same };
          stopped = c.stopped.ensures.ends;
        },
      );
      kept = subst (λ (old : List Receipt). Goes old (g.C.Calls.receipts c.stopped.new.client)) same
          c.stopped.ensures.kept;
    }
