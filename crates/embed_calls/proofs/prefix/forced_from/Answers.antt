use Rattle.std.proofs.Common.{arith, subst, sym}
use Rattle.embed_calls.specs.Calls.{IsForcedBehind}
use Rattle.embed_calls.proofs.prefix.forced_from.Goals as goal

pub returns-in-Some : goal.returns-in-Some
returns-in-Some c =
    let found = c.in-Some.ensures.found in
    let first = c.in-Some.ensures.first in
    let some = c.requires in
    subst (IsForcedBehind c.args.log.now c.args.end) (sym c.at.view_is) (record {
      there = λ n. found;
      first = λ at n le lt. first at le lt;
      none = λ at z le. absurd (some (omega arith));
    })
