use Rattle.log_prefix.proofs.Cuts.{same_found}
use Rattle.log_prefix.proofs.laws.bytes_have_one_front.Goals as goal

pub returns : goal.returns
returns c = same_found
