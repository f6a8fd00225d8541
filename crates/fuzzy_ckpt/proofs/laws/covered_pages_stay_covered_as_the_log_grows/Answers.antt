use Rattle.fuzzy_ckpt.proofs.Covers.{all_later, behind_later}
use Rattle.fuzzy_ckpt.proofs.laws.covered_pages_stay_covered_as_the_log_grows.Goals as goal

pub returns-clause-behind : goal.returns-clause-behind
returns-clause-behind c = λ log r stored it valid own is all. behind_later log r stored it valid own is all

pub returns-clause-all : goal.returns-clause-all
returns-clause-all c = λ rs r stored bound le all. all_later rs r stored bound le all
