use Rattle.std.proofs.Common.{◌≡◌, ◌∙◌, ℕ, ap, nat_eq, subst, sym}
use Rattle.std.specs.Map.{keys_of}
use Rattle.std.specs.Prelude.{None, Option, Some, is_some, position, slice_index_or}
use Rattle.buffer_pool.specs.Frames.{is_resident}
use Rattle.buffer_pool.specs.Slots.{IsPlace, SlotsView, pages_in}
use Rattle.buffer_pool.proofs.Placed.{no_place, not_there, place_found, resident_there, sought}
use Rattle.buffer_pool.proofs.slots.Slots.place_of.Goals as goal
use Rattle.buffer_pool.proofs.slots.Slots.place_of.Goals.{After-get_index_of}

-- what the search says
said : (c : After-get_index_of) (r : Option ℕ) → c.get_index_of.result ≡ r
    → position (nat_eq c.args.number) (keys_of c.self.inside.slots.entries) ≡ r
said c r is =
    sought (keys_of c.self.inside.slots.entries) c.number.inside.0 c.args.number c.get_index_of.result r c.number.view_is
    c.get_index_of.ensures.index is

pub returns-in_err-place-clause-found : goal.returns-in_err-place-clause-found
returns-in_err-place-clause-found c =
    ap is_some c.from_residual.ensures
    ∙ sym (no_place c.self.inside.slots.entries c.args.number c.self.invariant.0 c.in_err-place.ensures.unique
    (said (goal.at.returns-in_err-place-clause-found c).After-get_index_of None c.in_err-place.was))
    ∙ ap (λ (v : SlotsView). is_resident (pages_in v.list) c.args.number) c.self.view_is

pub returns-in_err-at-clause-found : goal.returns-in_err-at-clause-found
returns-in_err-at-clause-found c =
    ap is_some c.from_residual-in_err-at.ensures
    ∙ sym (not_there c.self.inside.slots.entries c.args.number c.self.invariant.0 c.in_ok-place.ensures.unique
    c.in_ok-place.place
    (said (goal.at.returns-in_err-at-clause-found c).After-get_index_of (Some c.in_ok-place.place) c.in_ok-place.was)
    (ap (λ (v : SlotsView). slice_index_or v.list c.in_ok-place.place None) c.self.view_is ∙ sym c.in_err-at.ensures))
    ∙ ap (λ (v : SlotsView). is_resident (pages_in v.list) c.args.number) c.self.view_is

pub returns-clause-place : goal.returns-clause-place
returns-clause-place c =
    subst (λ (v : SlotsView). IsPlace v.list c.args.number c.in_ok-place.place) c.self.view_is
    (place_found c.self.inside.slots.entries c.args.number c.self.invariant.0 c.in_ok-place.ensures.unique
    c.in_ok-place.place (said (goal.at.returns-clause-place c).After-get_index_of (Some c.in_ok-place.place) c.in_ok-place.was)
    c.in_ok-at.field-0.now
    (ap (λ (v : SlotsView). slice_index_or v.list c.in_ok-place.place None) c.self.view_is ∙ sym c.in_ok-at.ensures))

pub returns-clause-found : goal.returns-clause-found
returns-clause-found c =
    sym (resident_there c.args.self.now.list c.args.number c.in_ok-place.place (returns-clause-place c))
