use Rattle.log_rules.proofs.Pushes.{work_push}
use Rattle.log_rules.proofs.laws.work_grows_call_by_call.Goals as goal

pub returns : goal.returns
returns c = work_push
