use Rattle.std.proofs.Common.{length, ap, arith}
use Rattle.file_devices.specs.FileLog.{LogOnDisk, bytes_of, known_of}
use Rattle.file_devices.proofs.Kept.{length-bytes}
use Rattle.file_devices.proofs.file_log.FileLogLogDevice.sync.Goals as goal

pub sync_disk-requires-clause-alone : goal.sync_disk-requires-clause-alone
sync_disk-requires-clause-alone g c is =
    let long = length-bytes _ c.self.invariant in
    let same = ap (λ (v : LogOnDisk g.row.D.Denot). length (bytes_of v)) c.self.view_is in
    let seen = ap (λ (v : LogOnDisk g.row.D.Denot). length (g.D.Disk.seen v.disk)) c.self.view_is in
    let known = ap (λ (v : LogOnDisk g.row.D.Denot). length (known_of v.calls).bytes) c.self.view_is in (
      omega (arith, c.self.invariant.alone is, long, same, seen),
      omega (arith, c.self.invariant.known is, long, same, known),
    )
