use Rattle.std.proofs.Common.{◌<◌, ◌∙◌, List, length, sym, ap, arith}
use Rattle.std.proofs.Math.ListN.{get_or-map}
use Rattle.std.proofs.lemmas.List.{length-map}
use Rattle.std.specs.declared.alloc.Global.{Global}
use Rattle.std.specs.declared.boxed.Box.{Box}
use Rattle.page_core.specs.declared.page.Page.{Page}
use Rattle.page_decisions.specs.Decisions.{PageDecision, decision_at, page_of}
use Rattle.page_decisions.specs.Slots.{decisions_by, values}
use Rattle.page_decisions.proofs.Marks.{mark_is, page_read}
use Rattle.page_decisions.proofs.slots.Slots.page.Goals as goal

pub index-requires-in-Taken : goal.index-requires-in-Taken
index-requires-in-Taken c =
    let it = c.self.inside in
    let marks = it.marks.items in
    let pages = values it.places.items in
    let n = c.number.inside.0 in
    let there : n < length (decisions_by pages marks) = rw (c.number.view_is, c.self.view_is) c.requires in
    let at = mark_is pages marks n c.in-Taken.place c.index.result.now there c.index.ensures (sym c.decision.ensures ∙ c.in-Taken.is) in
    let within = c.self.invariant.within n c.in-Taken.place at in
    omega (arith, within, length-map it.places.items (λ place. place.value), it.places.ok.0)

pub returns-in-Taken : goal.returns-in-Taken
returns-in-Taken c =
    let it = c.self.inside in
    let marks = it.marks.items in
    let pages = values it.places.items in
    let n = c.number.inside.0 in
    let k = c.in-Taken.place in
    let box = c.index-in-Taken.result.now in
    let there : n < length (decisions_by pages marks) = rw (c.number.view_is, c.self.view_is) c.requires in
    let at = mark_is pages marks n k c.index.result.now there c.index.ensures (sym c.decision.ensures ∙ c.in-Taken.is) in
    let is = c.deref.ensures ∙ ap (λ (b : Box Page Global). b.value) c.index-in-Taken.ensures
    ∙ sym (get_or-map (λ (b : Box Page Global). b.value) it.places.items k box) in
    page_read pages marks n k c.deref.result.now box.value (c.self.invariant.within n k at) at is
    ∙ ap (λ (ds : List PageDecision). page_of (decision_at ds n)) c.self.view_is
    ∙ ap (λ p. page_of (decision_at c.args.self.now p)) c.number.view_is
