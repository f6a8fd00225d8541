use Rattle.std.proofs.Common.{◌∙◌, ap, set, arith}
use Rattle.std.specs.Prelude.{None}
use Rattle.buffer_pool.proofs.Columns.{count_is, is_ended, places, read_at}
use Rattle.buffer_pool.proofs.page_states.PageStates.end_write.Goals as goal

pub index_mut-requires : goal.index_mut-requires
index_mut-requires c =
    let s = c.self.inside in
    let at =
    places s.last_writes.items s.rec_lsns s.images.items s.first_changes.items c.args.self.now
    c.number.inside.0 c.args.number c.self.view_is c.self.invariant.0 c.requires c.number.view_is in
    omega (arith, s.last_writes.ok.0, at.in_written)

pub index-requires : goal.index-requires
index-requires c =
    let s = c.self.inside in
    let at =
    places s.last_writes.items s.rec_lsns s.images.items s.first_changes.items c.args.self.now
    c.number.inside.0 c.args.number c.self.view_is c.self.invariant.0 c.requires c.number.view_is in
    omega (arith, s.first_changes.ok.0, at.in_firsts)

pub replace-requires : goal.replace-requires
replace-requires c =
    let s = c.self.inside in
    let count =
    count_is s.last_writes.items s.rec_lsns s.images.items s.first_changes.items c.args.self.now c.self.view_is in
    omega (arith, c.self.invariant.0.rec_lsn_count)

pub index_mut-requires-2 : goal.index_mut-requires-2
index_mut-requires-2 c =
    let s = c.self.inside in
    let at =
    places s.last_writes.items s.rec_lsns s.images.items s.first_changes.items c.args.self.now
    c.number.inside.0 c.args.number c.self.view_is c.self.invariant.0 c.requires c.number.view_is in
    omega (arith, s.images.ok.0, at.in_images)

pub index_mut-requires-3 : goal.index_mut-requires-3
index_mut-requires-3 c =
    let s = c.self.inside in
    let at =
    places s.last_writes.items s.rec_lsns s.images.items s.first_changes.items c.args.self.now
    c.number.inside.0 c.args.number c.self.view_is c.self.invariant.0 c.requires c.number.view_is in
    omega (arith, s.first_changes.ok.0, at.in_firsts)

pub returns : goal.returns
returns c =
    let s = c.self.inside in
    let at =
    places s.last_writes.items s.rec_lsns s.images.items s.first_changes.items c.args.self.now
    c.number.inside.0 c.args.number c.self.view_is c.self.invariant.0 c.requires c.number.view_is in
    is_ended s.last_writes.items s.rec_lsns s.images.items s.first_changes.items c.args.self.now c.args.number
    c.self.view_is c.requires c.self.invariant.0 c.number.inside.0 c.args.lsn c.replace.new.self c.number.view_is
    (c.replace.ensures ∙ ap (set s.rec_lsns c.args.number)
    (read_at s.first_changes.items c.number.inside.0 c.args.number c.index.result.now None c.index.ensures at.in_firsts
    c.number.view_is))
