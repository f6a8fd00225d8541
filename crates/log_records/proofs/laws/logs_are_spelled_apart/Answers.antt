use Rattle.log_records.proofs.Logs.{same_log}
use Rattle.log_records.proofs.laws.logs_are_spelled_apart.Goals as goal

pub returns : goal.returns
returns c = same_log
