use Rattle.std.proofs.Common.{◌≡◌, ◌<◌, List, vec_len}
use Rattle.std.specs.List.{All}
use Rattle.page_claim.specs.declared.seats.ClaimSeat.{ClaimSeat}
use Rattle.page_claim.specs.Claims.{HasJoined, IsSeatOf}
use Rattle.page_claim.proofs.seats.PageClaims.join_all.Given as goal

abbrev pub invariant-loop-next : goal.invariant-loop-next
invariant-loop-next l = record {
  table : l.one.table_id ≡ l.initial.one.table_id;
  id : l.one.id ≡ l.initial.one.id;
  seats : All (IsSeatOf l.self) l.seats.items;
  works : 0 < l.one.me.0.weight;
  joined : (all : List ClaimSeat) → HasJoined l.initial.one.me.0 l.initial.seats.items all
      → HasJoined l.one.me.0 l.seats.items all;
}

abbrev pub decreases-loop-next : goal.decreases-loop-next
decreases-loop-next l = vec_len l.seats
