use Rattle.std.proofs.Common.{◌≡◌, ◌^◌, ◌<◌, length, arith, rules}
use Rattle.std.proofs.lemmas.List.{length-map}
use Rattle.page_decisions.specs.Slots.{decisions_of, values}
use Rattle.page_decisions.proofs.Decisions.{count_within}
use Rattle.page_decisions.proofs.InOrder.{length_of}
use Rattle.page_decisions.proofs.rising.RisingPages.taken.Goals as goal

pub overflow_cast-result : goal.overflow_cast-result
overflow_cast-result c =
    let it = c.self.inside in
    let pages = values it.places.items in
    let few = c.self.invariant.few in
    let counted = c.self.invariant.counted in
    let same : length pages ≡ length it.places.items = length-map it.places.items (λ place. place.value) in
    let wide = length_of pages it.count in
    let fits : c.len.result < 2 ^ 32 =
    omega (
      arith,
      few,
      counted,
      same,
      wide,
      count_within (decisions_of pages it.count),
      c.len.ensures,
      it.places.ok.0,
    ) in
    search rules
