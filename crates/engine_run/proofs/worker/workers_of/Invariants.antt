use Rattle.std.proofs.Common.{◌≤◌, vec_len}
use Rattle.std.specs.List.{All}
use Rattle.page_claim.specs.Claims.{IsSeatOf}
use Rattle.engine_run.proofs.worker.workers_of.Given as goal

-- the seats that are left are of the claims
abbrev pub invariant-loop-seat : goal.invariant-loop-seat
invariant-loop-seat l = All (IsSeatOf l.claims) l.seats.items × (vec_len l.seats ≤ 64)

abbrev pub decreases-loop-seat : goal.decreases-loop-seat
decreases-loop-seat l = vec_len l.seats
