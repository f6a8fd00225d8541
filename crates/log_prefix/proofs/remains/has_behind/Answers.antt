use Rattle.std.proofs.Common.{arith, sym, true≢false}
use Rattle.log_prefix.proofs.Places.{below_last, place_of}
use Rattle.log_prefix.proofs.remains.has_behind.Goals as goal

pub returns : goal.returns
returns c = (
  λ no. absurd (true≢false (sym no)),
  λ has.
      let place = place_of c.args.bytes.now has.later has.next has.stands in
      let below = below_last c.args.bytes.now has.later place in
      absurd (c.loop-place.invariant has.later has.next has.behind (omega arith) has.stands),
)
