use Rattle.std.proofs.Common.{refl, subst}
use Rattle.std.specs.Prelude.{MatchResult}
use Rattle.session_lines.specs.Orders.{IsNoCall, SaysCall}
use Rattle.session_lines.proofs.order.said_in.Goals as goal

pub returns-in-Err : goal.returns-in-Err
returns-in-Err c = (
  subst (λ it. MatchResult it (SaysCall c.args.line.now) (IsNoCall c.args.line.now)) c.in-Err.is
      c.in_ok-event-in-None.ensures,
  c.in-None.ensures.none refl,
)
