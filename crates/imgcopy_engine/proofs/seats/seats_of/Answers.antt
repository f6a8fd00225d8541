use Rattle.std.proofs.Common.{◌≡◌, [], arith}
use Rattle.std.proofs.lemmas.List.{length_push}
use Rattle.imgcopy_engine.proofs.Seated.{all_pushed, map_pushed}
use Rattle.imgcopy_engine.proofs.seats.seats_of.Goals as goal

pub loop-task-preserved : goal.loop-task-preserved
loop-task-preserved g c =
    let so_far = c.loop-task.invariant in
    record {
      tasks = map_pushed _ c.loop-task.seats.items c.push_reserved.new.self.items _ c.loop-task.yielded c.push_reserved.ensures.items so_far.tasks;
      fresh = all_pushed c.loop-task.seats.items c.push_reserved.new.self.items _ (λ seat. seat.client.session ≡ [])
          c.push_reserved.ensures.items so_far.fresh c.next_session.ensures.session;
      no_works = all_pushed c.loop-task.seats.items c.push_reserved.new.self.items _ (λ seat. seat.works.items ≡ [])
          c.push_reserved.ensures.items so_far.no_works c.new-works.ensures.items;
      room = omega (arith, so_far.room, c.push_reserved.ensures.capacity);
      left = omega (arith, so_far.left, c.next_session.ensures.one_less, length_push c.loop-task.yielded c.in-Some.task);
      empty = c.next_session.ensures.empty;
    }
