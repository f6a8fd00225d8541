use Rattle.std.proofs.Common.{◌≡◌, ◌^◌, ◌<◌, length, arith, rules}
use Rattle.std.proofs.lemmas.List.{length-map}
use Rattle.page_decisions.specs.Slots.{decision_by, decisions_by, values}
use Rattle.page_decisions.proofs.Decisions.{count_within}
use Rattle.page_decisions.proofs.slots.Slots.taken.Goals as goal

pub overflow_cast-result : goal.overflow_cast-result
overflow_cast-result c =
    let it = c.self.inside in
    let marks = it.marks.items in
    let pages = values it.places.items in
    let few = c.self.invariant.few in
    let counted = c.self.invariant.counted in
    let same : length pages ≡ length it.places.items = length-map it.places.items (λ place. place.value) in
    let wide = length-map marks (decision_by pages) in
    let fits : c.len.result < 2 ^ 32 =
    omega (arith, few, counted, same, wide, count_within (decisions_by pages marks), c.len.ensures, it.places.ok.0) in
    search rules
