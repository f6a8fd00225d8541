use Rattle.page_claim.specs.Claims.{IsSeatOf}
use Rattle.test_layers.proofs.page_claims.draw.Given as goal

abbrev pub invariant-loop : goal.invariant-loop
invariant-loop l = IsSeatOf l.claims l.seat
