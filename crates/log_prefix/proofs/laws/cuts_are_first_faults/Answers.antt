use Rattle.log_prefix.proofs.Cuts.{first_at_cut}
use Rattle.log_prefix.proofs.laws.cuts_are_first_faults.Goals as goal

pub returns : goal.returns
returns c = first_at_cut
