use Rattle.std.proofs.Common.{◌≡◌, ◌∙◌, get_or, ap, subst, sym, refl, arith}
use Rattle.std.specs.Prelude.{Option, None, Some, IfSome}
use Rattle.std.specs.Borrow.{Bor}
use Rattle.std.specs.Option.{option_copied}
use Rattle.page_core.specs.declared.page.Page.{Page}
use Rattle.buffer_pool.specs.Pool.{PageState}
use Rattle.buffer_pool.proofs.Columns.{places, read_at, state_is}
use Rattle.buffer_pool.proofs.page_states.PageStates.image.Goals as goal

pub index-requires : goal.index-requires
index-requires c =
    let s = c.self.inside in
    let at =
    places s.last_writes.items s.rec_lsns s.images.items s.first_changes.items c.args.self.now
    c.number.inside.0 c.args.number c.self.view_is c.self.invariant.0 c.requires c.number.view_is in
    omega (arith, s.images.ok.0, at.in_images)

-- what was read of the images
read : (c : goal.After-as_ref) → option_copied c.as_ref.result ≡ get_or c.self.inside.images.items c.args.number None
read c =
    let s = c.self.inside in
    let at =
    places s.last_writes.items s.rec_lsns s.images.items s.first_changes.items c.args.self.now
    c.number.inside.0 c.args.number c.self.view_is c.self.invariant.0 c.requires c.number.view_is in
    c.as_ref.ensures.value
    ∙ read_at s.images.items c.number.inside.0 c.args.number c.index.result.now None c.index.ensures at.in_images
    c.number.view_is

pub returns-clause-image : goal.returns-clause-image
returns-clause-image c =
    let s = c.self.inside in
    read c ∙ ap (λ (x : PageState). x.writing) (sym
    (state_is s.last_writes.items s.rec_lsns s.images.items s.first_changes.items c.args.self.now c.args.number
    c.self.view_is c.requires))

of_copied : (P : Page → Type 0) (o : Option (Bor Page)) (x : Option Page) → option_copied o ≡ x → IfSome x P
    → IfSome o (λ r. P r.now)
of_copied P None x e h = tt
of_copied P (Some r) x e h = subst (λ (y : Option Page). IfSome y P) (sym e) h

pub returns-clause-numbered : goal.returns-clause-numbered
returns-clause-numbered c =
    let s = c.self.inside in
    let at =
    places s.last_writes.items s.rec_lsns s.images.items s.first_changes.items c.args.self.now
    c.args.number c.args.number c.self.view_is c.self.invariant.0 c.requires refl in
    of_copied (λ q. q.number ≡ c.args.number) c.as_ref.result (get_or s.images.items c.args.number None) (read c)
    (c.self.invariant.0.numbers c.args.number at.in_images)
