use Rattle.std.proofs.Common.{◌≡◌, ◌∙◌, ◌+◌, ◌*◌, ◌≤◌, ◌++◌, ◌∷◌, [], ap, arith, length, subst, sym, true≢false}
use Rattle.std.specs.Map.{values_of}
use Rattle.std.specs.Prelude.{None, Some, slice_get}
use Rattle.std.proofs.lemmas.Map.Entries.{length-values_of}
use Rattle.page_core.specs.declared.page.Page.{Page}
use Rattle.page_core.specs.declared.page.TheConstants.{MAX_PAGES}
use Rattle.buffer_pool.specs.Frames.{is_resident}
use Rattle.buffer_pool.specs.Slots.{AreCounted, ArePageNumbers, AreUnderNumbers, SlotsView, pages_in}
use Rattle.buffer_pool.proofs.Holes.{counted_more}
use Rattle.buffer_pool.proofs.Placed.{free_number, hole_found, pages_most, slots_few, under_more, under_past_hole, under_with}
use Rattle.buffer_pool.proofs.Placed.{values_more, values_past_hole}
use Rattle.buffer_pool.proofs.slots.Slots.push.Goals as goal
use Rattle.buffer_pool.proofs.slots.Slots.push.Goals.{After-get_index_of-found, After-put_past_hole, In-Some}

few : (c : After-get_index_of-found) → length c.self.inside.slots.entries ≤ 2 * MAX_PAGES + 1
few c =
    slots_few c.self.inside.slots.entries c.self.invariant.0 c.self.inside.count c.get_index_of-found.ensures.unique
    c.self.invariant.1

pub overflow_add-self : goal.overflow_add-self
overflow_add-self c =
    let es = c.self.inside.slots.entries in
    omega (
      arith,
      few (goal.at.overflow_add-self c).After-get_index_of-found,
      pages_most (values_of es),
      c.self.invariant.1.pages,
      length-values_of es,
    )

pub invariant_of-self : goal.invariant_of-self
invariant_of-self c =
    let it = c.self.inside in
    let es = it.slots.entries in
    let n = c.behind-frame.inside.0.0.0 in
    let page = c.args.frame in
    let same = ap (λ (p : Page). p.number) (c.behind-frame.view_is ∙ c.page.ensures) in (
      subst AreUnderNumbers (sym c.put_last.ensures) (under_more es c.self.invariant.0 n page same c.requires.within),
      subst (AreCounted (it.count + 1)) (sym (ap values_of c.put_last.ensures ∙ values_more es n page))
          (counted_more it.count (values_of es) page c.self.invariant.1),
      λ named.
          subst ArePageNumbers (sym c.put_last.ensures)
          (under_with MAX_PAGES es n page same c.requires.within (omega arith) (c.self.invariant.2 named)),
    )

pub put_past_hole-requires-clause-few : goal.put_past_hole-requires-clause-few
put_past_hole-requires-clause-few c = few (goal.at.put_past_hole-requires-clause-few c).After-get_index_of-found

pub put_past_hole-requires-clause-free : goal.put_past_hole-requires-clause-free
put_past_hole-requires-clause-free c = free_number c.self.inside.slots.entries c.self.invariant.0

-- the hole that is found
hole : (c : In-Some) → slice_get c.self.inside.slots.entries c.in-Some.hole
    ≡ Some (c.behind-frame.inside.0.0.0, None)
hole c =
    hole_found c.self.inside.slots.entries c.behind-frame.inside.0.0.0 c.self.invariant.0
    c.get_index_of-found.ensures.unique c.in-Some.hole (sym c.get_index_of-found.ensures.index ∙ c.in-Some.is)
    (ap (λ (v : SlotsView). is_resident (pages_in v.list) c.behind-frame.inside.0.0.0) c.self.view_is
    ∙ ap (λ (p : Page). is_resident (pages_in c.args.self.now.list) p.number) (c.behind-frame.view_is ∙ c.page.ensures)
    ∙ c.requires.absent)

pub put_past_hole-requires-clause-hole : goal.put_past_hole-requires-clause-hole
put_past_hole-requires-clause-hole c = hole (goal.at.put_past_hole-requires-clause-hole c).In-Some

-- the slots after it
slots : (c : After-put_past_hole) → slice_get c.self.inside.slots.entries c.in-Some.hole
    ≡ Some (c.behind-frame.inside.0.0.0, None)
    → values_of c.put_past_hole.new.slots.entries ≡ values_of c.self.inside.slots.entries ++ Some c.args.frame ∷ []
slots c at =
    let es = c.self.inside.slots.entries in
    ap values_of c.put_past_hole.ensures
    ∙ values_past_hole es c.in-Some.hole (MAX_PAGES + length es) c.behind-frame.inside.0.0.0 c.args.frame at

pub invariant_of-self-in-Some : goal.invariant_of-self-in-Some
invariant_of-self-in-Some c =
    let it = c.self.inside in
    let es = it.slots.entries in
    let page = c.args.frame in
    let same = ap (λ (p : Page). p.number) (c.behind-frame.view_is ∙ c.page.ensures) in (
      subst AreUnderNumbers (sym c.put_past_hole.ensures)
          (under_past_hole es c.self.invariant.0 c.behind-frame.inside.0.0.0 page same c.requires.within c.in-Some.hole),
      subst (AreCounted (it.count + 1)) (sym (slots (goal.at.invariant_of-self-in-Some c).After-put_past_hole
          (hole (goal.at.invariant_of-self-in-Some c).In-Some)))
          (counted_more it.count (values_of es) page c.self.invariant.1),
      λ named. absurd (true≢false (sym named)),
    )

pub returns-in-Some : goal.returns-in-Some
returns-in-Some c =
    slots (goal.at.returns-in-Some c).After-put_past_hole (hole (goal.at.returns-in-Some c).In-Some)
    ∙ ap (λ (v : SlotsView). v.list ++ Some c.args.frame ∷ []) c.self.view_is
