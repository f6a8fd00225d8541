use Rattle.std.proofs.Common.{subst}
use Rattle.log_records.specs.Log.{SpellsLog, log_bytes}
use Rattle.log_records.proofs.Public.{same_log}
use Rattle.media_restore.proofs.WithLog.{spelled_log}
use Rattle.media_restore.proofs.log_output.written_logs_are_read_again.Goals as goal

pub returns-clause-spelled : goal.returns-clause-spelled
returns-clause-spelled c = spelled_log

pub returns-clause-again : goal.returns-clause-again
returns-clause-again c log read bytes is valid spells =
    same_log read log (log_bytes log) (subst (SpellsLog read) is spells) (spelled_log log valid)
