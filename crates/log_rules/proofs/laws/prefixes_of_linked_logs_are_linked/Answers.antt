use Rattle.log_rules.proofs.Histories.{linked-take}
use Rattle.log_rules.proofs.laws.prefixes_of_linked_logs_are_linked.Goals as goal

pub returns : goal.returns
returns c = linked-take
