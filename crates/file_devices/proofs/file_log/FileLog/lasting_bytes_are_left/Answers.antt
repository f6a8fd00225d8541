use Rattle.std.proofs.Common.{◌≡◌, length, subst}
use Rattle.file_devices.specs.FileLog.{LogOnDisk, synced_of}
use Rattle.file_devices.proofs.Kept.{length-synced}
use Rattle.file_devices.proofs.file_log.FileLog.lasting_bytes_are_left.Goals as goal

pub returns-clause-counted : goal.returns-clause-counted
returns-clause-counted g c =
    subst (λ (v : LogOnDisk g.row.D.Denot). length (synced_of v) ≡ v.end) c.self.view_is
    (length-synced _ c.self.invariant)
