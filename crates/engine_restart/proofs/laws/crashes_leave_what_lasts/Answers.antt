use Rattle.std.proofs.Common.{◌∙◌, length}
use Rattle.log_records.specs.Log.{lsn_of}
use Rattle.engine_restart.proofs.Failed.{last_bytes}
use Rattle.engine_restart.proofs.laws.crashes_leave_what_lasts.Goals as goal

pub returns : goal.returns
returns g c log left lasts trusted is =
    let kept = c.lasting_bytes_are_left.ensures in
    last_bytes c.args.device.now left (lsn_of (length log.records)) kept.counted lasts.lasts (kept.left trusted left is)
    ∙ lasts.holds
