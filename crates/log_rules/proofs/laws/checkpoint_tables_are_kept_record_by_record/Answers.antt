use Rattle.log_rules.proofs.CheckpointTables.{checkpoint_table_of_push}
use Rattle.log_rules.proofs.laws.checkpoint_tables_are_kept_record_by_record.Goals as goal

pub returns : goal.returns
returns c = checkpoint_table_of_push
