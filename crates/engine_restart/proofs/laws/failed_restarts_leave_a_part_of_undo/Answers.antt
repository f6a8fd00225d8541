use Rattle.std.proofs.Common.{length}
use Rattle.log_records.specs.Log.{lsn_of}
use Rattle.engine_restart.proofs.Failed.{asked_there, leaves_a_part}
use Rattle.engine_restart.specs.Interrupted.{asked_of}
use Rattle.engine_restart.specs.Restart.{undone_log}
use Rattle.engine_restart.proofs.laws.failed_restarts_leave_a_part_of_undo.Goals as goal

pub returns : goal.returns
returns g c log found old new fails valid linked is =
    leaves_a_part log found (asked_of log fails) c.forced_records_are_in_the_front.ensures
    (asked_there (undone_log log) (lsn_of (length log.records)) fails.0 old new fails.1) valid linked is
