use Rattle.std.proofs.Common.{◌≡◌, ◌-◌, ◌<◌, ◌∙◌, length, rules, sym, subst, ap}
use Rattle.std.specs.Prelude.{slice_set}
use Rattle.std.specs.Vec.{vec_capacity}
use Rattle.page_decisions.specs.Decisions.{undecided, decision_at}
use Rattle.page_decisions.specs.Slots.{IsMarked, decisions_by, values}
use Rattle.page_decisions.proofs.Marks.{decisions_keep, marked_keep, some_left}
use Rattle.page_decisions.proofs.slots.Slots.keep.Goals as goal

pub overflow_sub-self : goal.overflow_sub-self
overflow_sub-self c =
    let marks = c.self.inside.marks.items in
    let pages = values c.self.inside.places.items in
    let n = c.number.inside.0 in
    let there : n < length (decisions_by pages marks) = rw (c.number.view_is, c.self.view_is) c.requires.there in
    let none : decision_at (decisions_by pages marks) n ≡ undecided =
    rw (c.number.view_is, c.self.view_is) c.requires.undecided in
    let some = some_left marks pages c.self.inside.left (vec_capacity c.self.inside.places) n
    c.self.invariant there none in
    search rules

pub invariant_of-self : goal.invariant_of-self
invariant_of-self c =
    let marks = c.self.inside.marks.items in
    let pages = values c.self.inside.places.items in
    let n = c.number.inside.0 in
    let there : n < length (decisions_by pages marks) = rw (c.number.view_is, c.self.view_is) c.requires.there in
    let none : decision_at (decisions_by pages marks) n ≡ undecided =
    rw (c.number.view_is, c.self.view_is) c.requires.undecided in
    let room = vec_capacity c.self.inside.places in
    subst (λ m. IsMarked (slice_set marks n m) pages (c.self.inside.left - 1) room) (sym c.kept.ensures)
    (marked_keep marks pages c.self.inside.left room n c.self.invariant there none)

pub returns : goal.returns
returns c =
    ap (λ m. decisions_by (values c.self.inside.places.items)
    (slice_set c.self.inside.marks.items c.number.inside.0 m)) c.kept.ensures
    ∙ decisions_keep (values c.self.inside.places.items) c.self.inside.marks.items c.number.inside.0
    ∙ rw (c.number.view_is, c.self.view_is)
