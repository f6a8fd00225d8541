use Rattle.log_rules.proofs.Histories.{linked_none, linked_push}
use Rattle.log_rules.proofs.laws.linked_logs_grow_by_what_may_follow.Goals as goal

pub returns : goal.returns
returns c = record { none = linked_none; more = linked_push }
