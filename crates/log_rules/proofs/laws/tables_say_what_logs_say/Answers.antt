use Rattle.log_rules.proofs.Checks.{entry_in-table_of, holder_in-table_of, owed_in-table_of}
use Rattle.log_rules.proofs.laws.tables_say_what_logs_say.Goals as goal

pub returns : goal.returns
returns c = record { entries = entry_in-table_of; holders = holder_in-table_of; rooms = owed_in-table_of }
