use Rattle.fuzzy_ckpt.proofs.Covers.{all_grown, behind_grown}
use Rattle.fuzzy_ckpt.proofs.laws.covered_pages_stay_covered_as_the_store_grows.Goals as goal

pub returns-clause-behind : goal.returns-clause-behind
returns-clause-behind c = λ log stored it count valid enough all. behind_grown log stored count valid enough it all

pub returns-clause-all : goal.returns-clause-all
returns-clause-all c = λ log stored bound count valid enough all. all_grown log stored count valid enough bound all
