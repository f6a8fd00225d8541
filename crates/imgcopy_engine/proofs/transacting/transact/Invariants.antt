use Rattle.std.specs.Fn.{CalledWithState}
use Rattle.imgcopy_engine.specs.Trying.{BusyTries}
use Rattle.imgcopy_engine.proofs.transacting.transact.Given as goal

-- each try so far met a slot that was busy
abbrev pub invariant-loop : goal.invariant-loop
invariant-loop g l =
    goal.F-IsAlwaysCallable g l.work
    × BusyTries g.C.Calls.receipts g.C.Calls.called (CalledWithState g.F.FnMut) l.fn.client l.fn.work l.counter l.work l.client
