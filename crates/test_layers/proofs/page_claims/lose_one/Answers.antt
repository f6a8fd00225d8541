use Rattle.std.proofs.lemmas.List.Elements.{All-pop}
use Rattle.page_claim.specs.Claims.{IsSeatOf}
use Rattle.test_layers.proofs.page_claims.lose_one.Goals as goal

pub returns : goal.returns
returns c = (All-pop (IsSeatOf c.args.claims.now) _ _ _ c.pop.ensures.items c.requires).0
