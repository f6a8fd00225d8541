use Rattle.log_prefix.proofs.Forced.{forced_in_front}
use Rattle.log_prefix.proofs.laws.forced_records_are_in_the_front.Goals as goal

pub returns : goal.returns
returns c = forced_in_front
