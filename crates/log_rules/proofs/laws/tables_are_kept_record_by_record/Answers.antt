use Rattle.log_rules.proofs.Steps.{table_of_push}
use Rattle.log_rules.proofs.laws.tables_are_kept_record_by_record.Goals as goal

pub returns : goal.returns
returns c = table_of_push
