use Rattle.engine_rules.proofs.RunRooms.{room_of_new, room_of_run}
use Rattle.engine_rules.proofs.laws.there_is_room_at_each_place.Goals as goal

pub returns : goal.returns
returns c = record { new = room_of_new; later = room_of_run }
