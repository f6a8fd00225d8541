use Rattle.std.proofs.Common.{◌≡◌, ◌+◌, ◌-◌, [], length, vec_capacity}
use Rattle.std.specs.List.{All}
use Rattle.page_claim.specs.Claims.{IsNewSeatOf}
use Rattle.page_claim.specs.Rule.{new_view}
use Rattle.page_claim.proofs.seats.PageClaims.seats.Given as goal

abbrev pub invariant-loop-made : goal.invariant-loop-made
invariant-loop-made l = record {
  table : l.first.table_id ≡ l.self.table.shared.table_id;
  first : l.first.me ≡ (new_view l.self.count (l.workers + 1 - l._made), []);
  count : length l.seats.items + 1 ≡ l._made;
  room : vec_capacity l.seats ≡ vec_capacity l.initial.seats;
  seats : All (IsNewSeatOf l.self) l.seats.items;
}
