use Rattle.std.proofs.Common.{rules, ℕ, List, subst, sym, ap, ◌∙◌, arith, [], ◌∷◌, length, length-append}
use Rattle.std.proofs.lemmas.List.Elements.{All-push}
use Rattle.std.specs.List.{All}
use Rattle.page_claim.specs.declared.rule.ClaimView.{ClaimView}
use Rattle.page_claim.specs.declared.seats.ClaimSeat.{ClaimSeat}
use Rattle.page_claim.specs.Claims.{IsNewSeatOf}
use Rattle.page_claim.specs.Rule.{new_view, one_less, one_worker}
use Rattle.page_claim.proofs.Allowed.{splits}
use Rattle.page_claim.proofs.Joined.{new_seat}
use Rattle.page_claim.proofs.seats.PageClaims.seats.Goals as goal

abbrev M : Type 0
M = ClaimView × List (ℕ × Unit {0})

pub split_seat-next-requires : goal.split_seat-next-requires
split_seat-next-requires c =
    let view = ap (λ (m : M). m.0) c.loop-made.invariant.first in
    let weight = ap (λ (v : ClaimView). v.weight) view in
    (search rules, search rules, splits _ _ _ (omega arith) (ap (λ (v : ClaimView). v.ended) view))

pub loop-made-preserved : goal.loop-made-preserved
loop-made-preserved c =
    let view = ap (λ (m : M). m.0) c.loop-made.invariant.first in
    let count = c.args.self.now.count in
    record {
      table = c.split_seat-next.ensures.0 ∙ c.loop-made.invariant.table;
      first = c.split_seat-next.ensures.2 ∙ ap (λ (m : M). (one_less m.0, m.1)) c.loop-made.invariant.first ∙ ap (λ (n : ℕ). (new_view count n, [])) (omega arith);
      count = let l = c.push_reserved.ensures.items in let n = length-append c.loop-made.seats.items (c.one_seat.result ∷ []) in omega (arith, ap (λ (xs : List ClaimSeat). length xs) l, c.loop-made.invariant.count);
      room = search rules;
      seats = subst (All (IsNewSeatOf c.args.self.now)) (sym c.push_reserved.ensures.items) (All-push (IsNewSeatOf c.args.self.now) _ _ c.loop-made.invariant.seats
          (new_seat c.args.self.now c.one_seat.result c.split_seat-next.result 1 c.one_seat.ensures.0 c.one_seat.ensures.1 (c.split_seat-next.ensures.3 ∙ c.loop-made.invariant.table)
          (ap (λ (m : M). m.0) c.split_seat-next.ensures.4 ∙ ap one_worker view)));
    }

pub returns-clause-seats : goal.returns-clause-seats
returns-clause-seats c =
    let view = ap (λ (m : M). m.0) c.loop-made.invariant.first in
    subst (All (IsNewSeatOf c.args.self.now)) (sym c.push_reserved-2.ensures.items) (All-push (IsNewSeatOf c.args.self.now) _ _ c.loop-made.invariant.seats
    (new_seat c.args.self.now c.one_seat-2.result c.loop-made.first _ c.one_seat-2.ensures.0 c.one_seat-2.ensures.1 c.loop-made.invariant.table view))
