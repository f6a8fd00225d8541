use Rattle.log_prefix.proofs.Forced.{kept_in_front}
use Rattle.log_prefix.proofs.laws.fronts_have_what_a_device_keeps.Goals as goal

pub returns : goal.returns
returns g c = kept_in_front g.D.LogDevice.bytes
