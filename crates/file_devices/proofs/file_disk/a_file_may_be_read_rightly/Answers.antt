use Rattle.std.proofs.Common.{◌∷◌, [], arith}
use Rattle.sqlite_disk.specs.Events.{settled}
use Rattle.sqlite_disk.proofs.EventLemmas.{honest_read, honest_settled}
use Rattle.file_devices.proofs.file_disk.a_file_may_be_read_rightly.Goals as goal

pub returns : goal.returns
returns c had count why within =
    honest_read had (settled 0 ∷ []) 0 count count (omega (arith, within)) (honest_settled had 0)
