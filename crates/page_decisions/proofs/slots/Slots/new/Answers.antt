use Rattle.std.proofs.Common.{◌≡◌, ◌+◌, ◌<◌, ◌^◌, ◌∙◌, List, [], replicate, sym, subst, ap, arith}
use Rattle.std.specs.Vec.{vec_capacity}
use Rattle.page_core.specs.declared.page.Page.{Page}
use Rattle.page_decisions.specs.declared.slots.PlacedDecision.{PlacedDecision}
use Rattle.page_decisions.specs.declared.slots.PlacedDecision.TheVariants.{Undecided}
use Rattle.page_decisions.specs.Slots.{IsMarked, decisions_by, values}
use Rattle.page_decisions.proofs.Marks.{marked_none, none_marked}
use Rattle.page_decisions.proofs.slots.Slots.new.Goals as goal

pub invariant_of-result : goal.invariant_of-result
invariant_of-result c =
    let n = c.args.count in
    let places = c.in_ok-places.places in
    let room = vec_capacity places in
    let end : c.loop.counter ≡ n = omega arith in
    let few : n + 2 < 2 ^ 32 = omega arith in
    let marks = c.loop.invariant ∙ ap (λ k. replicate k Undecided) end in
    let none = ap values c.in_ok-places.ensures.items in
    subst (λ (ms : List PlacedDecision). IsMarked ms (values places.items) n room) (sym marks)
    (subst (λ (ps : List Page). IsMarked (replicate n Undecided) ps n room) (sym none)
    (marked_none n room few (omega (arith, c.in_ok-places.ensures.exact))))

pub returns : goal.returns
returns c =
    let end : c.loop.counter ≡ c.args.count = omega arith in
    let marks = c.loop.invariant ∙ ap (λ k. replicate k Undecided) end in
    ap (λ (ps : List Page). decisions_by ps c.loop.marks.items) (ap values c.in_ok-places.ensures.items)
    ∙ ap (decisions_by []) marks ∙ none_marked c.args.count
