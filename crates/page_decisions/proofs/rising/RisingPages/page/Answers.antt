use Rattle.std.proofs.Common.{◌≡◌, ◌≢◌, ℕ, ◌<◌, ◌≤◌, ◌∙◌, List, [], ◌∷◌, length, get_or, sym, ap, subst, arith}
use Rattle.std.specs.declared.alloc.Global.{Global}
use Rattle.std.specs.declared.boxed.Box.{Box}
use Rattle.std.proofs.lemmas.List.{get_or-map, length-map}
use Rattle.page_core.specs.declared.page.Page.{Page}
use Rattle.page_core.specs.Page.{formatted}
use Rattle.page_decisions.specs.Decisions.{PageDecision, decision_at, page_of}
use Rattle.page_decisions.specs.Slots.{decisions_of, values}
use Rattle.page_decisions.proofs.InOrder.{read_kept, read_taken}
use Rattle.page_decisions.proofs.rising.RisingPages.page.Goals as goal
use Rattle.page_decisions.proofs.rising.RisingPages.page.Goals.{else-place-len-via-then-place-len+else-deref-number}
use Rattle.page_decisions.proofs.rising.RisingPages.page.Goals.{else-place-len-via-else-place-len}

at_place : (places : List (Box Page Global)) (k : ℕ) (box : Box Page Global) (d : Page) → k < length places
    → box ≡ get_or places k box → get_or (values places) k d ≡ box.value
at_place places k box d lt is =
    get_or-map (λ (b : Box Page Global). b.value) places k box d lt ∙ ap (λ (b : Box Page Global). b.value) (sym is)

pub returns-then-deref-number : goal.returns-then-deref-number
returns-then-deref-number c =
    let it = c.self.inside in
    let places = it.places.items in
    let pages = values places in
    let k = c.first_from-place.result in
    let n = c.args.number in
    let box = c.index-then-deref-number.result.now in
    let lt : k < length places = omega (arith, c.if-place-len.true, c.len.ensures, it.places.ok.0) in
    let within : k < length pages = omega (arith, length-map places (λ place. place.value)) in
    let at = at_place places k box box.value lt c.index-then-deref-number.ensures in
    let was = at_place places k c.index.result.now box.value lt c.index.ensures in
    let number : (get_or pages k box.value).number ≡ n = omega (
      arith,
      c.if-deref-number.true,
      ap (λ (p : Page). p.number) c.behind-index.view_is,
      ap (λ (p : Page). p.number) c.deref-then-place-len.ensures,
      ap (λ (p : Page). p.number) was,
      c.number.view_is,
    ) in
    let there : n < length (decisions_of pages it.count) = omega (arith, c.requires, ap length c.self.view_is) in
    ap (λ (p : Page). p ∷ []) (c.deref-then-deref-number.ensures ∙ sym at)
    ∙ sym (ap page_of (read_taken pages it.count k n box.value c.self.invariant there within number))
    ∙ ap (λ (ds : List PageDecision). page_of (decision_at ds n)) c.self.view_is

pub returns-else-place-len : goal.returns-else-place-len
returns-else-place-len c =
    let it = c.self.inside in
    let places = it.places.items in
    let pages = values places in
    let k = c.first_from-place.result in
    let n = c.args.number in
    let d = formatted 0 in
    let there : n < length (decisions_of pages it.count) = omega (arith, c.requires, ap length c.self.view_is) in
    let same = c.deref.ensures.value in
    let before = subst
    (λ (boxes : List (Box Page Global)). (i : ℕ) (d : Page) → i < k → (get_or (values boxes) i d).number < n)
    same c.first_from-place.ensures.before in
    let least = subst
    (λ (boxes : List (Box Page Global)). (d : Page) → k < length (values boxes)
    → n ≤ (get_or (values boxes) k d).number)
    same c.first_from-place.ensures.at in
    let wide = length-map places (λ place. place.value) in
    let apart : k < length pages → (get_or pages k d).number ≢ n =
    elim c.else-place-len.branch [
      | else-place-len-via-then-place-len+else-deref-number w ↦ λ within same.
          let lt : k < length places = omega (arith, within, wide) in
          let was = at_place places k w.index.result.now d lt w.index.ensures in
          omega (
            arith,
            w.if-deref-number.false,
            ap (λ (p : Page). p.number) w.behind-index.view_is,
            ap (λ (p : Page). p.number) w.deref-then-place-len.ensures,
            ap (λ (p : Page). p.number) was,
            c.number.view_is,
            same,
          )
      | else-place-len-via-else-place-len w ↦ λ within same.
          let past = w.if-place-len.false in
          omega (arith, past, within, wide, c.len.ensures, it.places.ok.0)
    ] in
    sym (ap page_of (read_kept pages it.count k n d c.self.invariant there (λ i less. before i d less) (least d) apart))
    ∙ ap (λ (ds : List PageDecision). page_of (decision_at ds n)) c.self.view_is
