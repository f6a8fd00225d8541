use Rattle.log_records.proofs.Records.{records_apart}
use Rattle.log_records.proofs.laws.records_are_spelled_apart.Goals as goal

pub returns : goal.returns
returns c = records_apart
