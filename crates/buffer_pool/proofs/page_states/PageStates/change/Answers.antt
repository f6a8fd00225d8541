use Rattle.std.proofs.Common.{◌≡◌, ◌∙◌, Bool, true, false, cond, get_or, set, ap, sym, arith, ℕ}
use Rattle.std.specs.Prelude.{Option, Some, None, is_some}
use Rattle.std.specs.Option.{unwrap_or}
use Rattle.buffer_pool.proofs.Columns.{count_is, is_changed, kept, places, put_at, read_at}
use Rattle.buffer_pool.proofs.page_states.PageStates.change.Goals as goal

pub note-requires : goal.note-requires
note-requires c =
    let s = c.self.inside in
    let count =
    count_is s.last_writes.items s.rec_lsns s.images.items s.first_changes.items c.args.self.now c.self.view_is in
    omega (arith, c.self.invariant.0.rec_lsn_count)

pub index-requires : goal.index-requires
index-requires c =
    let s = c.self.inside in
    let at =
    places s.last_writes.items s.rec_lsns s.images.items s.first_changes.items c.args.self.now
    c.number.inside.0 c.args.number c.self.view_is c.self.invariant.0 c.requires c.number.view_is in
    omega (arith, s.images.ok.0, at.in_images)

pub index_mut-requires : goal.index_mut-requires
index_mut-requires c =
    let s = c.self.inside in
    let at =
    places s.last_writes.items s.rec_lsns s.images.items s.first_changes.items c.args.self.now
    c.number.inside.0 c.args.number c.self.view_is c.self.invariant.0 c.requires c.number.view_is in
    omega (arith, s.first_changes.ok.0, at.in_firsts)

pub returns-then-is_some : goal.returns-then-is_some
returns-then-is_some c =
    let s = c.self.inside in
    let m = c.number.inside.0 in
    let n = c.args.number in
    let lsn = c.args.lsn in
    let now = c.note_first.new.first in
    let since = get_or s.first_changes.items n None in
    let at =
    places s.last_writes.items s.rec_lsns s.images.items s.first_changes.items c.args.self.now
    m n c.self.view_is c.self.invariant.0 c.requires c.number.view_is in
    let test : is_some (get_or s.images.items n None) ≡ true =
    ap is_some (sym
    (read_at s.images.items m n c.index.result.now None c.index.ensures at.in_images c.number.view_is))
    ∙ sym c.is_some.ensures ∙ c.if-is_some.true in
    is_changed s.last_writes.items s.rec_lsns s.images.items s.first_changes.items c.args.self.now n
    c.self.view_is c.requires c.self.invariant.0 lsn c.note.new.self (set s.first_changes.items m now)
    c.note.ensures
    (put_at s.first_changes.items m n now
    (cond (is_some (get_or s.images.items n None)) (Some (unwrap_or since lsn)) since) c.number.view_is
    (c.note_first.ensures ∙ ap (λ (o : Option ℕ). Some (unwrap_or o lsn))
    (read_at s.first_changes.items m n c.index_mut.result.now None c.index_mut.ensures.value
    at.in_firsts c.number.view_is)
    ∙ sym (ap (λ (b : Bool). cond b (Some (unwrap_or since lsn)) since) test)))

pub returns-else-is_some : goal.returns-else-is_some
returns-else-is_some c =
    let s = c.self.inside in
    let m = c.number.inside.0 in
    let n = c.args.number in
    let lsn = c.args.lsn in
    let since = get_or s.first_changes.items n None in
    let at =
    places s.last_writes.items s.rec_lsns s.images.items s.first_changes.items c.args.self.now
    m n c.self.view_is c.self.invariant.0 c.requires c.number.view_is in
    let test : is_some (get_or s.images.items n None) ≡ false =
    ap is_some (sym
    (read_at s.images.items m n c.index.result.now None c.index.ensures at.in_images c.number.view_is))
    ∙ sym c.is_some.ensures ∙ c.if-is_some.false in
    is_changed s.last_writes.items s.rec_lsns s.images.items s.first_changes.items c.args.self.now n
    c.self.view_is c.requires c.self.invariant.0 lsn c.note.new.self s.first_changes.items c.note.ensures
    (kept s.first_changes.items n
    (cond (is_some (get_or s.images.items n None)) (Some (unwrap_or since lsn)) since) None
    (ap (λ (b : Bool). cond b (Some (unwrap_or since lsn)) since) test))
