use Rattle.imgcopy_engine.specs.Ending.{GoesBack, Goes}
use Rattle.imgcopy_engine.proofs.ending.roll_back.Given as goal

-- so many changes are taken back
abbrev pub invariant-loop : goal.invariant-loop
invariant-loop g l = record {
  back : GoesBack g.C.Calls.receipts g.C.Calls.called l.txn l.counter l.fn.client l.client;
  kept : Goes (g.C.Calls.receipts l.fn.client) (g.C.Calls.receipts l.client);
}
