use Rattle.std.proofs.Common.{◌∙◌, ap, arith}
use Rattle.page_core.specs.declared.page.Page.{Page}
use Rattle.buffer_pool.proofs.Columns.{is_begun, places}
use Rattle.buffer_pool.proofs.page_states.PageStates.begin_write.Goals as goal

pub index_mut-requires : goal.index_mut-requires
index_mut-requires c =
    let s = c.self.inside in
    let at =
    places s.last_writes.items s.rec_lsns s.images.items s.first_changes.items c.args.self.now
    c.number.inside.0 c.args.image.number c.self.view_is c.self.invariant.0 c.requires (c.number.view_is
    ∙ ap (λ (q : Page). q.number) c.page.ensures) in
    omega (arith, s.images.ok.0, at.in_images)

pub index_mut-requires-2 : goal.index_mut-requires-2
index_mut-requires-2 c =
    let s = c.self.inside in
    let at =
    places s.last_writes.items s.rec_lsns s.images.items s.first_changes.items c.args.self.now
    c.number.inside.0 c.args.image.number c.self.view_is c.self.invariant.0 c.requires (c.number.view_is
    ∙ ap (λ (q : Page). q.number) c.page.ensures) in
    omega (arith, s.first_changes.ok.0, at.in_firsts)

pub returns : goal.returns
returns c =
    let s = c.self.inside in
    is_begun s.last_writes.items s.rec_lsns s.images.items s.first_changes.items c.args.self.now c.args.image.number
    c.self.view_is c.requires c.self.invariant.0 c.number.inside.0 c.args.image
    (c.number.view_is ∙ ap (λ (q : Page). q.number) c.page.ensures)
