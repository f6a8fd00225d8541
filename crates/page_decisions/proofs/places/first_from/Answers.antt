use Rattle.std.proofs.Common.{◌≡◌, ℕ, ◌+◌, ◌-◌, ◌/◌, ◌<◌, ◌∙◌, List, length, get_or, sym, ap, arith, inl, inr}
use Rattle.std.specs.declared.alloc.Global.{Global}
use Rattle.std.specs.declared.boxed.Box.{Box}
use Rattle.std.proofs.lemmas.Bool.{cases_lt}
use Rattle.std.proofs.lemmas.List.{get_or-map, length-map}
use Rattle.page_core.specs.declared.page.Page.{Page}
use Rattle.page_decisions.specs.Slots.{NumbersRise, values}
use Rattle.page_decisions.proofs.places.first_from.Goals as goal

-- the pages up to one that is below the number are
all_below : (places : List (Box Page Global)) (middle n : ℕ) (box : Box Page Global) → NumbersRise (values places)
    → middle < length places → box ≡ get_or places middle box → box.value.number < n → (k : ℕ) (d : Page)
    → k < middle + 1 → (get_or (values places) k d).number < n
all_below places middle n box rise lt is small k d up =
    let vs = values places in
    let within : middle < length vs = omega (arith, length-map places (λ place. place.value)) in
    let at : get_or vs middle d ≡ box.value =
    get_or-map (λ (b : Box Page Global). b.value) places middle box d lt
    ∙ ap (λ (b : Box Page Global). b.value) (sym is) in
    let number = ap (λ (p : Page). p.number) at in
    elim (cases_lt k middle) [
      | inl less ↦ let rises = rise k middle d less within in omega (arith, rises, number, small)
      | inr le ↦ let here : k ≡ middle = omega arith in
          let same = ap (λ m. (get_or vs m d).number) here in omega (arith, same, number, small)
    ]

pub loop-from-preserved-then-deref-number : goal.loop-from-preserved-then-deref-number
loop-from-preserved-then-deref-number c =
    let places = c.args.places.now in
    let from = c.loop-from.from in
    let end = c.loop-from.end in
    let middle = from + (end - from) / 2 in
    let inv = c.loop-from.invariant in
    let within = inv.within in
    let more = c.loop-from-test.true in
    let box = c.index-places-middle.result in
    let below : middle < length places = omega (arith, length-map places (λ place. place.value)) in
    let less = c.if-deref-number.true in
    let small : box.value.number < c.args.number = omega (
      arith,
      less,
      ap (λ (p : Page). p.number) c.behind-places.view_is,
      ap (λ (p : Page). p.number) c.deref.ensures,
      c.number.view_is,
    ) in
    record {
      order = omega arith;
      within = inv.within;
      before = all_below places middle c.args.number box c.requires below c.index-places-middle.is small;
      at = inv.at;
    }
