use Rattle.imgcopy_engine.specs.Ending.{TakesBack}
use Rattle.imgcopy_engine.proofs.ending.step_back.Given as goal

-- so many changes are taken back
abbrev pub invariant-loop : goal.invariant-loop
invariant-loop g l = TakesBack l.txn l.counter (g.C.Calls.receipts l.fn.client) (g.C.Calls.receipts l.client)
