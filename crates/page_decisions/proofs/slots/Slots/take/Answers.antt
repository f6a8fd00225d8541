use Rattle.std.proofs.Common.{◌≡◌, ℕ, ◌-◌, ◌^◌, ◌<◌, ◌∙◌, ◌++◌, List, [], ◌∷◌, length, sym, ap, subst, subst₂}
use Rattle.std.proofs.Common.{arith, rules}
use Rattle.std.specs.Prelude.{slice_set}
use Rattle.std.specs.Vec.{vec_capacity}
use Rattle.std.proofs.lemmas.List.{length-map, map-append}
use Rattle.page_core.specs.declared.page.Page.{Page}
use Rattle.page_decisions.specs.declared.slots.PlacedDecision.TheVariants.{Taken}
use Rattle.page_decisions.specs.Decisions.{undecided, decision_at}
use Rattle.page_decisions.specs.Slots.{IsMarked, decisions_by, values}
use Rattle.page_decisions.proofs.Marks.{decisions_take, marked_take, place_left}
use Rattle.page_decisions.proofs.slots.Slots.take.Goals as goal

pub overflow_cast-len : goal.overflow_cast-len
overflow_cast-len c =
    let it = c.self.inside in
    let marks = it.marks.items in
    let pages = values it.places.items in
    let n = c.args.number in
    let there : n < length (decisions_by pages marks) = rw c.self.view_is c.requires.there in
    let none : decision_at (decisions_by pages marks) n ≡ undecided = rw c.self.view_is c.requires.undecided in
    let less = place_left marks pages it.left (vec_capacity it.places) n c.self.invariant there none in
    let few = c.self.invariant.few in
    let same : length pages ≡ length it.places.items = length-map it.places.items (λ place. place.value) in
    let fits : c.len.result < 2 ^ 32 = omega (arith, less, few, same, c.len.ensures, it.places.ok.0) in
    search rules

pub taken-requires : goal.taken-requires
taken-requires c =
    let it = c.self.inside in
    let marks = it.marks.items in
    let pages = values it.places.items in
    let n = c.args.number in
    let there : n < length (decisions_by pages marks) = rw c.self.view_is c.requires.there in
    let none : decision_at (decisions_by pages marks) n ≡ undecided = rw c.self.view_is c.requires.undecided in
    let less = place_left marks pages it.left (vec_capacity it.places) n c.self.invariant there none in
    let few = c.self.invariant.few in
    let same : length pages ≡ length it.places.items = length-map it.places.items (λ place. place.value) in
    omega (arith, less, few, same, c.len.ensures, it.places.ok.0)

pub push_reserved-requires : goal.push_reserved-requires
push_reserved-requires c =
    let it = c.self.inside in
    let marks = it.marks.items in
    let pages = values it.places.items in
    let n = c.number.inside.0 in
    let there : n < length (decisions_by pages marks) = rw (c.number.view_is, c.self.view_is) c.requires.there in
    let none : decision_at (decisions_by pages marks) n ≡ undecided =
    rw (c.number.view_is, c.self.view_is) c.requires.undecided in
    let less = place_left marks pages it.left (vec_capacity it.places) n c.self.invariant there none in
    let room = c.self.invariant.fits in
    let same : length pages ≡ length it.places.items = length-map it.places.items (λ place. place.value) in
    omega (arith, less, room, same, it.places.ok.0)

pub invariant_of-self : goal.invariant_of-self
invariant_of-self c =
    let it = c.self.inside in
    let marks = it.marks.items in
    let pages = values it.places.items in
    let x = c.args.place.value in
    let n = c.number.inside.0 in
    let there : n < length (decisions_by pages marks) = rw (c.number.view_is, c.self.view_is) c.requires.there in
    let none : decision_at (decisions_by pages marks) n ≡ undecided =
    rw (c.number.view_is, c.self.view_is) c.requires.undecided in
    let number : x.number ≡ n = c.requires.numbered ∙ sym c.number.view_is in
    let same : length pages ≡ length it.places.items = length-map it.places.items (λ place. place.value) in
    let place : length pages ≡ c.len.result = omega (arith, same, c.len.ensures, it.places.ok.0) in
    let more = ap values c.push_reserved.ensures.items
    ∙ map-append (λ place. place.value) it.places.items (c.args.place ∷ []) in
    subst₂ (λ (ps : List Page) (room : ℕ). IsMarked (slice_set marks n c.taken.result) ps (it.left - 1) room)
    (sym more) (sym c.push_reserved.ensures.capacity)
    (subst (λ m. IsMarked (slice_set marks n m) (pages ++ x ∷ []) (it.left - 1) (vec_capacity it.places))
    (sym c.taken.ensures)
    (subst (λ k. IsMarked (slice_set marks n (Taken k)) (pages ++ x ∷ []) (it.left - 1) (vec_capacity it.places)) place
    (marked_take marks pages it.left (vec_capacity it.places) n x c.self.invariant there none number)))

pub returns : goal.returns
returns c =
    let it = c.self.inside in
    let marks = it.marks.items in
    let pages = values it.places.items in
    let x = c.args.place.value in
    let n = c.number.inside.0 in
    let same : length pages ≡ length it.places.items = length-map it.places.items (λ place. place.value) in
    let place : length pages ≡ c.len.result = omega (arith, same, c.len.ensures, it.places.ok.0) in
    let more = ap values c.push_reserved.ensures.items
    ∙ map-append (λ place. place.value) it.places.items (c.args.place ∷ []) in
    ap (λ (ps : List Page). decisions_by ps (slice_set marks n c.taken.result)) more
    ∙ ap (λ m. decisions_by (pages ++ x ∷ []) (slice_set marks n m)) c.taken.ensures
    ∙ ap (λ k. decisions_by (pages ++ x ∷ []) (slice_set marks n (Taken k))) (sym place)
    ∙ decisions_take pages marks n x c.self.invariant.within ∙ rw (c.number.view_is, c.self.view_is)
