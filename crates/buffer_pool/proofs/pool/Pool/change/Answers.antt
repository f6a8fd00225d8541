use Rattle.std.proofs.Common.{◌≡◌, ◌∙◌, ◌<◌, ℕ, List, [], ◌∷◌, length, map, set, ap, refl, subst, sym}
use Rattle.std.specs.Prelude.{IfSome, Option, Some}
use Rattle.page_core.specs.declared.page.Page.{Page}
use Rattle.log_records.specs.declared.page_change.PageChange.{PageChange}
use Rattle.log_records.specs.Image.{with_record}
use Rattle.log_records.specs.Record.{change_of, own_lsn}
use Rattle.log_records.specs.Log.{with_next}
use Rattle.buffer_pool.specs.Frames.{IsResident, is_resident}
use Rattle.buffer_pool.specs.Pool.{IsPoolOf, PageState, PoolView, changed, is_clean_in, state_in, written_of, writing_of}
use Rattle.buffer_pool.proofs.Pools.{changed_at, none_changes, page_is_there, pool_changed, pool_same}
use Rattle.buffer_pool.proofs.Pools.{written_changed, writing_changed}
use Rattle.std.proofs.lemmas.List.{length-set}
use Rattle.buffer_pool.proofs.Sought.{dirty_set, others_set, pool_noted, whole_states}
use Rattle.buffer_pool.proofs.pool.Pool.change.Goals as goal

pub returns-in-Some-clause-kept : goal.returns-in-Some-clause-kept
returns-in-Some-clause-kept g c = λ log of valid.
    let stored_in = g.S.PageStore.stored in
    let it = c.self.inside in
    let next = c.args.next.now in
    let n = c.in-Some.change.page in
    let log' = with_next log (next ∷ []) in
    let old : PoolView g.row.S.Denot = record {
      store = it.store;
      frames = it.limit;
      room = it.frames.room;
      resident = it.frames.pages;
      states = it.states;
    } in
    let view : old ≡ c.args.self.now = c.self.view_is in
    let named : change_of next ≡ Some c.in-Some.change = sym c.in-Some.ensures in
    let here : IsResident it.frames.pages n =
    ap (λ (v : PoolView g.row.S.Denot). is_resident v.resident n) view
    ∙ subst (λ (o : Option PageChange). IfSome o (λ x. IsResident c.args.self.now.resident x.page)) named
    c.requires.resident in
    let states : c.change-in-Some.new.self ≡ set it.states n (changed (state_in it.states n) (own_lsn next)) =
    changed_at it.states c.change-in-Some.new.self n c.lsn.result (own_lsn next)
    c.change-in-Some.ensures c.lsn.ensures in
    let new : PoolView g.row.S.Denot = record {
      store = it.store;
      frames = it.limit;
      room = it.frames.room;
      resident = map (λ page. with_record page next) it.frames.pages;
      states = set it.states n (changed (state_in it.states n) (own_lsn next));
    } in
    let made = pool_changed stored_in log next old c.in-Some.change c.requires.same_count named here valid
    (subst (IsPoolOf stored_in log) (sym view) of) in
    pool_noted stored_in log' (record new {
      room = c.redo.new.self.room;
      resident = c.redo.new.self.pages;
      states = c.change-in-Some.new.self;
    })
    (c.note_change.new.self.room) c.note_change.new.self.pages c.note_change.ensures.pages
    (subst (λ (ss : List PageState). IsPoolOf stored_in log' (record new {
      room = c.redo.new.self.room;
      resident = c.redo.new.self.pages;
      states = ss;
    }))
    (sym states)
    (subst (λ (pages : List Page). IsPoolOf stored_in log' (record new {
      room = c.redo.new.self.room;
      resident = pages;
    }))
    (sym c.redo.ensures.pages)
    (subst (λ (room : ℕ). IsPoolOf stored_in log' (record new { room = room })) (sym c.redo.ensures.room) made)))

pub returns-in_default-clause-kept : goal.returns-in_default-clause-kept
returns-in_default-clause-kept g c = λ log of valid.
    let next = c.args.next.now in
    let old = c.args.self.now in
    let none = sym c.in_default.ensures in
    subst (λ (pages : List Page). IsPoolOf g.S.PageStore.stored (with_next log (next ∷ []))
    (record old { resident = pages }))
    (none_changes next old.resident none) (pool_same g.S.PageStore.stored log next old c.requires.same_count none valid of)

pub returns-in-Some-clause-pages : goal.returns-in-Some-clause-pages
returns-in-Some-clause-pages g c =
    let next = c.args.next.now in
    c.note_change.ensures.pages ∙ c.redo.ensures.pages
    ∙ ap (λ (v : PoolView g.row.S.Denot). map (λ page. with_record page next) v.resident) c.self.view_is

pub returns-in_default-clause-pages : goal.returns-in_default-clause-pages
returns-in_default-clause-pages g c =
    sym (none_changes c.args.next.now c.args.self.now.resident (sym c.in_default.ensures))

pub returns-in-Some-clause-written : goal.returns-in-Some-clause-written
returns-in-Some-clause-written g c =
    let it = c.self.inside in
    let n = c.in-Some.change.page in
    let there = page_is_there g.S.PageStore.stored c.requires.next.0 c.args.next.now c.args.self.now c.in-Some.change
    (sym c.in-Some.ensures) c.requires.next.1.1 c.requires.next.1.0 in
    let states : it.states ≡ c.args.self.now.states = ap (λ (v : PoolView g.row.S.Denot). v.states) c.self.view_is in
    let here : n < length it.states = subst (λ (ss : List PageState). n < length ss) (sym states) there in
    written_changed it.states c.change-in-Some.new.self n c.lsn.result c.change-in-Some.ensures here
    ∙ ap written_of states

pub returns-in-Some-clause-writing : goal.returns-in-Some-clause-writing
returns-in-Some-clause-writing g c =
    let it = c.self.inside in
    let n = c.in-Some.change.page in
    let there = page_is_there g.S.PageStore.stored c.requires.next.0 c.args.next.now c.args.self.now c.in-Some.change
    (sym c.in-Some.ensures) c.requires.next.1.1 c.requires.next.1.0 in
    let states : it.states ≡ c.args.self.now.states = ap (λ (v : PoolView g.row.S.Denot). v.states) c.self.view_is in
    let here : n < length it.states = subst (λ (ss : List PageState). n < length ss) (sym states) there in
    writing_changed it.states c.change-in-Some.new.self n c.lsn.result c.change-in-Some.ensures here
    ∙ ap writing_of states

pub invariant_of-self : goal.invariant_of-self
invariant_of-self g c =
    let it = c.self.inside in
    let n = c.in-Some.change.page in
    let clean = is_clean_in it.states in
    let there = page_is_there g.S.PageStore.stored c.requires.next.0 c.args.next.now c.args.self.now c.in-Some.change
    (sym c.in-Some.ensures) c.requires.next.1.1 c.requires.next.1.0 in
    let states : it.states ≡ c.args.self.now.states = ap (λ (v : PoolView g.row.S.Denot). v.states) c.self.view_is in
    let here : n < length it.states = subst (λ (ss : List PageState). n < length ss) (sym states) there in
    record {
      whole = whole_states (g.S.PageStore.stored it.store) it.states c.change-in-Some.new.self
          (ap (length {A = PageState}) c.change-in-Some.ensures
          ∙ length-set it.states n (changed (state_in it.states n) c.lsn.result)) c.self.invariant.whole;
      sought = c.note_change.ensures.sought clean
          (c.redo.ensures.sought clean c.self.invariant.sought)
          (others_set it.states c.change-in-Some.new.self n _ c.change-in-Some.ensures)
          (dirty_set it.states c.change-in-Some.new.self n _ _ c.change-in-Some.ensures here refl);
    }

pub change-requires-in-Some : goal.change-requires-in-Some
change-requires-in-Some g c =
    let n = c.in-Some.change.page in
    let there = page_is_there g.S.PageStore.stored c.requires.next.0 c.args.next.now c.args.self.now c.in-Some.change
    (sym c.in-Some.ensures) c.requires.next.1.1 c.requires.next.1.0 in
    subst (λ (v : PoolView g.row.S.Denot). n < length v.states) (sym c.self.view_is) there
