use Rattle.std.proofs.Common.{rules}
use Rattle.page_claim.proofs.Allowed.{claims}
use Rattle.page_claim.proofs.seats.PageClaims.claim.Goals as goal

pub fetch_add-found-requires : goal.fetch_add-found-requires
fetch_add-found-requires c = (search rules, search rules, claims _ _ _ _ (search rules) (search rules))
