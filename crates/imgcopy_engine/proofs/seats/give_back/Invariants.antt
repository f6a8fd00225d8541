use Rattle.std.proofs.Common.{◌≡◌, map, vec_capacity}
use Rattle.imgcopy_engine.specs.Run.{lists_of}
use Rattle.imgcopy_engine.proofs.seats.give_back.Given as goal

-- what the seats so far had, with the same room
abbrev pub invariant-loop-seat : goal.invariant-loop-seat
invariant-loop-seat g l = record {
  tasks : l.tasks.items ≡ map (λ seat. seat.task) l.yielded;
  sessions : l.sessions.items ≡ map (λ seat. seat.client.session) l.yielded;
  works : lists_of l.works.items ≡ map (λ seat. seat.works.items) l.yielded;
  tasks_room : vec_capacity l.tasks ≡ vec_capacity l.fn.tasks;
  sessions_room : vec_capacity l.sessions ≡ vec_capacity l.fn.sessions;
  works_room : vec_capacity l.works ≡ vec_capacity l.fn.works;
}
