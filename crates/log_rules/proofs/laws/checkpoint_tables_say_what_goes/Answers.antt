use Rattle.log_rules.proofs.CheckpointTables.{goes_as_noted}
use Rattle.log_rules.proofs.laws.checkpoint_tables_say_what_goes.Goals as goal

pub returns : goal.returns
returns c = goes_as_noted
