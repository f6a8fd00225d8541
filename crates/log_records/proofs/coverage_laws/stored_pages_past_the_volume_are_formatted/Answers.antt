use Rattle.std.proofs.Common.{get_or}
use Rattle.log_records.proofs.PastVolume.{past_is_formatted}
use Rattle.log_records.proofs.coverage_laws.stored_pages_past_the_volume_are_formatted.Goals as goal

pub returns : goal.returns
returns c = λ log stored written writing number d valid are past_end lt.
    past_is_formatted log number (get_or stored number d) valid past_end (are.pages number d lt).past
