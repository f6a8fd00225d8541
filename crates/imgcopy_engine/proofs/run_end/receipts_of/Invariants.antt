use Rattle.std.proofs.Common.{◌≡◌, vec_capacity}
use Rattle.imgcopy_engine.specs.Run.{lists_of}
use Rattle.imgcopy_engine.proofs.run_end.receipts_of.Given as goal

-- the receipts of the sessions so far, with the same room
abbrev pub invariant-loop-session : goal.invariant-loop-session
invariant-loop-session g l =
    (lists_of l.receipts.items ≡ l.yielded) × (vec_capacity l.receipts ≡ vec_capacity l.fn.receipts)
