use Rattle.engine_rules.proofs.Rooms.{past_if_full, room_if_accepted}
use Rattle.engine_rules.proofs.laws.log_full_is_exact.Goals as goal

pub returns : goal.returns
returns c = record { accepted = room_if_accepted; refused = past_if_full }
