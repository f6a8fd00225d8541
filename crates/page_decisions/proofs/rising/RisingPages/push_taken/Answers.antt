use Rattle.std.proofs.Common.{◌≡◌, ◌<◌, ◌+◌, ◌^◌, ◌++◌, ◌∙◌, List, [], ◌∷◌, length, sym, ap, subst, arith, rules}
use Rattle.std.proofs.lemmas.List.{map-append}
use Rattle.page_core.specs.declared.page.Page.{Page}
use Rattle.page_decisions.specs.Decisions.{PageDecision, taken}
use Rattle.page_decisions.specs.Slots.{AreRising, decisions_of, values}
use Rattle.page_decisions.proofs.InOrder.{length_of, rising_take, taken_more}
use Rattle.page_decisions.proofs.rising.RisingPages.push_taken.Goals as goal

pub overflow_add-self : goal.overflow_add-self
overflow_add-self c =
    let it = c.self.inside in
    let few = c.requires.few in
    let fits : it.count + 1 < 2 ^ 32 =
    omega (arith, few, length_of (values it.places.items) it.count, ap length c.self.view_is) in
    search rules

pub invariant_of-self-2 : goal.invariant_of-self-2
invariant_of-self-2 c =
    let it = c.self.inside in
    let pages = values it.places.items in
    let x = c.args.place.value in
    let few = c.requires.few in
    let wide = length_of pages it.count in
    let same = ap length c.self.view_is in
    let next : x.number ≡ it.count = omega (arith, c.requires.next, wide, same) in
    let more = ap values c.in_ok-push.ensures.items
    ∙ map-append (λ place. place.value) it.places.items (c.args.place ∷ []) in
    subst (λ (ps : List Page). AreRising ps (it.count + 1)) (sym more)
    (rising_take pages it.count x c.self.invariant next (omega (arith, few, wide, same)))

pub returns : goal.returns
returns c =
    let it = c.self.inside in
    let pages = values it.places.items in
    let x = c.args.place.value in
    let next : x.number ≡ it.count =
    omega (arith, c.requires.next, length_of pages it.count, ap length c.self.view_is) in
    let more = ap values c.in_ok-push.ensures.items
    ∙ map-append (λ place. place.value) it.places.items (c.args.place ∷ []) in
    ap (λ (ps : List Page). decisions_of ps (it.count + 1)) more ∙ taken_more pages it.count x c.self.invariant next
    ∙ ap (λ (ds : List PageDecision). ds ++ taken x ∷ []) c.self.view_is
