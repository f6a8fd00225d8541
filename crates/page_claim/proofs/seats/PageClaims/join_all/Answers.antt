use Rattle.std.proofs.Common.{rules, Some, subst, sym, ap, ◌∙◌, arith, List, ℕ}
use Rattle.std.proofs.lemmas.List.Elements.{All-pop}
use Rattle.page_claim.specs.Claims.{HasJoined, IsSeatOf}
use Rattle.page_claim.proofs.Allowed.{joins}
use Rattle.page_claim.proofs.Joined.{joined_one}
use Rattle.page_claim.specs.declared.rule.ClaimView.{ClaimView}
use Rattle.page_claim.specs.declared.seats.ClaimSeat.{ClaimSeat}
use Rattle.page_claim.proofs.seats.PageClaims.join_all.Goals as goal

pub join_seat-requires : goal.join_seat-requires
join_seat-requires c =
    let parts = All-pop (IsSeatOf c.args.self.now) _ _ (Some c.in-Some.next) c.in-Some.ensures.items c.loop-next.invariant.seats in (
      c.loop-next.invariant.table ∙ c.requires.own,
      parts.1.0,
      c.in-Some.next.no_slot,
      search rules,
      joins _ _ _ _ _ c.loop-next.invariant.works,
    )

pub loop-next-preserved : goal.loop-next-preserved
loop-next-preserved c =
    let parts = All-pop (IsSeatOf c.args.self.now) _ _ (Some c.in-Some.next) c.in-Some.ensures.items c.loop-next.invariant.seats in
    let view = ap (λ (m : ClaimView × List (ℕ × Unit {0})). m.0) c.join_seat.ensures.2 in
    record {
      table = c.join_seat.ensures.0 ∙ c.loop-next.invariant.table;
      id = c.join_seat.ensures.1 ∙ c.loop-next.invariant.id;
      seats = parts.0;
      works = let weight = ap (λ (v : ClaimView). v.weight) view in let old = c.loop-next.invariant.works in omega arith;
      joined = λ all h. subst (λ (v : ClaimView). HasJoined v c.pop.new.self.items all) (sym view)
          (joined_one _ _ _ _ (subst (λ (xs : List ClaimSeat). HasJoined c.loop-next.one.me.0 xs all) c.in-Some.ensures.items (c.loop-next.invariant.joined all h)));
    }
