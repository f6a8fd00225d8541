use Rattle.std.proofs.Common.{◌≡◌, ◌+◌, ◌≤◌, [], length, map, vec_capacity, vec_len}
use Rattle.std.specs.List.{All}
use Rattle.imgcopy_engine.proofs.seats.seats_of.Given as goal

-- a seat for each task so far, and a session for each of the others
abbrev pub invariant-loop-task : goal.invariant-loop-task
invariant-loop-task g l = record {
  tasks : map (λ seat. seat.task) l.seats.items ≡ l.yielded;
  fresh : All (λ seat. seat.client.session ≡ []) l.seats.items;
  no_works : All (λ seat. seat.works.items ≡ []) l.seats.items;
  room : vec_len l.fn.tasks ≤ vec_capacity l.seats;
  left : vec_len l.sessions + length l.yielded ≡ vec_len l.fn.tasks;
  empty : All (λ session. session ≡ []) l.sessions.items;
}
