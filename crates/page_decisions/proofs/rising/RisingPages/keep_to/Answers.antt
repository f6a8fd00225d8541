use Rattle.std.proofs.Common.{◌≤◌, ◌<◌, ◌-◌, ◌^◌, ◌++◌, ◌∙◌, List, length, replicate, sym, ap, arith}
use Rattle.page_decisions.specs.Decisions.{PageDecision, kept}
use Rattle.page_decisions.specs.Slots.{decisions_of, values}
use Rattle.page_decisions.proofs.InOrder.{kept_more, length_of, rising_keep}
use Rattle.page_decisions.proofs.rising.RisingPages.keep_to.Goals as goal

pub invariant_of-self : goal.invariant_of-self
invariant_of-self c =
    let it = c.self.inside in
    let pages = values it.places.items in
    let le : it.count ≤ c.args.end = omega (arith, c.requires, length_of pages it.count, ap length c.self.view_is) in
    let few : c.args.end < 2 ^ 32 = omega arith in
    rising_keep pages it.count c.args.end c.self.invariant le few

pub returns : goal.returns
returns c =
    let it = c.self.inside in
    let pages = values it.places.items in
    let end = c.args.end in
    let le : it.count ≤ end = omega (arith, c.requires, length_of pages it.count, ap length c.self.view_is) in
    kept_more pages it.count end c.self.invariant le
    ∙ ap (λ n. decisions_of pages it.count ++ replicate (end - n) kept) (sym (length_of pages it.count))
    ∙ ap (λ (ds : List PageDecision). ds ++ replicate (end - length ds) kept) c.self.view_is
