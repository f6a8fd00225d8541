use Rattle.std.proofs.Common.{◌≡◌, map, take}
use Rattle.imgcopy_engine.specs.Run.{all_works}
use Rattle.imgcopy_engine.proofs.seats.works_of.Given as goal

abbrev pub invariant-loop-seat : goal.invariant-loop-seat
invariant-loop-seat g l = l.works.items ≡ all_works (map (λ seat. seat.works.items) (take l.seat-index l.seats))
