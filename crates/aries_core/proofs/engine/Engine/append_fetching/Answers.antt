use Rattle.std.proofs.Common.{◌≡◌, ◌<◌, length, sym, ap, subst, ◌∙◌, arith}
use Rattle.log_records.specs.Log.{Log, StandsAt, lsn_of}
use Rattle.log_records.specs.Log.{page_count}
use Rattle.txn_table.specs.Returns.{HasReturns}
use Rattle.engine_rules.specs.Call.{Calls}
use Rattle.engine_rules.specs.EngineState.{EngineState, with_appended, log_of, with_page}
use Rattle.engine_rules.specs.EngineView.{EngineView, engine_view}
use Rattle.engine_rules.specs.EngineState.{volume_pages}
use Rattle.aries_core.specs.OpenCkpt.{media_view}
use Rattle.aries_core.proofs.Appends.{after_fetch, appended_is, valid_with}
use Rattle.aries_core.proofs.Asks.{brought_is, page_was_asked}
use Rattle.engine_rules.proofs.Public.{comes, comes_few}
use Rattle.aries_core.proofs.engine.Engine.append_fetching.Goals as goal
use Rattle.aries_core.proofs.engine.Engine.append_fetching.Given as given

pub return_of-back-requires : goal.return_of-back-requires
return_of-back-requires g c =
    let it = c.self.inside in
    let stored = g.S.PageStore.stored in
    let media = media_view it.master it.session it.vault.copies it.returns.made in
    let s = (engine_view stored it.log it.pool media).state in
    let r = c.args.next in
    let calls : Calls s r =
    subst (λ (v : EngineView g.row.S.Denot g.row.D.Denot). Calls v.state r) (sym c.self.view_is) c.requires.called in
    let fit = c.self.invariant.fit in
    let come = comes s r fit calls in
    (s.log, (c.self.invariant.table_of_log, come.may_follow))

pub note_in_room-requires-clause-follows : goal.note_in_room-requires-clause-follows
note_in_room-requires-clause-follows g c =
    let it = c.self.inside in
    let stored = g.S.PageStore.stored in
    let media = media_view it.master it.session it.vault.copies it.returns.made in
    let s = (engine_view stored it.log it.pool media).state in
    let r = c.args.next in
    let calls : Calls s r =
    subst (λ (v : EngineView g.row.S.Denot g.row.D.Denot). Calls v.state r) (sym c.self.view_is) c.requires.called in
    let fit = c.self.invariant.fit in
    let come = comes s r fit calls in
    (s.log, (c.self.invariant.table_of_log, come.may_follow))

pub append-requires-clause-stands : goal.append-requires-clause-stands
append-requires-clause-stands g c =
    let it = c.self.inside in
    let stored = g.S.PageStore.stored in
    let media = media_view it.master it.session it.vault.copies it.returns.made in
    let s = (engine_view stored it.log it.pool media).state in
    let r = c.args.next in
    let calls : Calls s r =
    subst (λ (v : EngineView g.row.S.Denot g.row.D.Denot). Calls v.state r) (sym c.self.view_is) c.requires.called in
    let fit = c.self.invariant.fit in
    let come = comes s r fit calls in
    subst (λ (l : Log). StandsAt (page_count l) (lsn_of (length l.records)) r) (sym c.make_room.ensures.same) come.stands_at

pub append-requires-clause-few : goal.append-requires-clause-few
append-requires-clause-few g c =
    let it = c.self.inside in
    let stored = g.S.PageStore.stored in
    let media = media_view it.master it.session it.vault.copies it.returns.made in
    let s = (engine_view stored it.log it.pool media).state in
    let r = c.args.next in
    let calls : Calls s r =
    subst (λ (v : EngineView g.row.S.Denot g.row.D.Denot). Calls v.state r) (sym c.self.view_is) c.requires.called in
    let fit = c.self.invariant.fit in
    let come = comes s r fit calls in
    let few = comes_few s r come in
    omega (arith, few, ap (λ (l : Log). length l.records) c.make_room.ensures.same)

pub change-requires-clause-next : goal.change-requires-clause-next
change-requires-clause-next g c =
    let it = c.self.inside in
    let stored = g.S.PageStore.stored in
    let media = media_view it.master it.session it.vault.copies it.returns.made in
    let s = (engine_view stored it.log it.pool media).state in
    let r = c.args.next in
    let calls : Calls s r =
    subst (λ (v : EngineView g.row.S.Denot g.row.D.Denot). Calls v.state r) (sym c.self.view_is) c.requires.called in
    let fit = c.self.invariant.fit in
    let come = comes s r fit calls in
    let of_log = c.bring_into.ensures.kept (log_of s) c.self.invariant.pool_of_log in
    (log_of s, (of_log, valid_with s r fit come))

came : (g : given.Over) (c : goal.After-change g)
    → (engine_view g.S.PageStore.stored c.self.inside.log c.bring_into.new.pool
    (media_view c.self.inside.master c.self.inside.session c.self.inside.vault.copies c.self.inside.returns.made)).state
    ≡ with_page (engine_view g.S.PageStore.stored c.self.inside.log c.self.inside.pool
    (media_view c.self.inside.master c.self.inside.session c.self.inside.vault.copies c.self.inside.returns.made)).state
    c.args.page
came g c =
    let it = c.self.inside in
    let stored = g.S.PageStore.stored in
    let media = media_view it.master it.session it.vault.copies it.returns.made in
    let s = (engine_view stored it.log it.pool media).state in
    brought_is stored it.log it.pool c.bring_into.new.pool media c.args.page
    (omega (arith, c.requires.within, ap (λ v. volume_pages v.state) c.self.view_is, c.self.invariant.pool_of_log.pages))
    c.bring_into.ensures.rest (c.in_ok-bring_into.ensures.came (log_of s) c.self.invariant.pool_of_log)

grown : (g : given.Over) (c : goal.After-change g)
    → (engine_view g.S.PageStore.stored c.append.new.self c.change.new.self
    (media_view c.self.inside.master c.self.inside.session c.self.inside.vault.copies c.self.inside.returns.made)).state
    ≡ with_appended (engine_view g.S.PageStore.stored c.self.inside.log c.bring_into.new.pool
    (media_view c.self.inside.master c.self.inside.session c.self.inside.vault.copies c.self.inside.returns.made)).state
    c.args.next
grown g c =
    let it = c.self.inside in
    let stored = g.S.PageStore.stored in
    let media = media_view it.master it.session it.vault.copies it.returns.made in
    appended_is stored it.log c.make_room.new.self c.append.new.self c.bring_into.new.pool c.change.new.self media
    c.args.next c.make_room.ensures.same c.make_room.ensures.forced_end c.append.ensures.next
    c.append.ensures.forced_end (ap (λ x. stored x) c.change.ensures.store) c.change.ensures.frames
    c.change.ensures.pages c.change.ensures.written c.change.ensures.writing

pub invariant_of-self-2 : goal.invariant_of-self-2
invariant_of-self-2 g c =
    let it = c.self.inside in
    let stored = g.S.PageStore.stored in
    let media = media_view it.master it.session it.vault.copies it.returns.made in
    let s = (engine_view stored it.log it.pool media).state in
    let r = c.args.next in
    let calls : Calls s r =
    subst (λ (v : EngineView g.row.S.Denot g.row.D.Denot). Calls v.state r) (sym c.self.view_is) c.requires.called in
    let fit = c.self.invariant.fit in
    let come = comes s r fit calls in
    let within : c.args.page < volume_pages s =
    subst (λ (v : EngineView g.row.S.Denot g.row.D.Denot). c.args.page < volume_pages v.state) (sym c.self.view_is)
    c.requires.within in
    let of_log = c.bring_into.ensures.kept (log_of s) c.self.invariant.pool_of_log in
    let table = c.self.invariant.table_of_log in
    let noted = c.note_in_room.ensures s.log table come.may_follow in
    let back = c.add.ensures.log s.log r
    (subst (HasReturns s.log) (sym c.make_room-else-is_err.ensures.same) c.self.invariant.returns_of_log)
    come.may_follow (c.return_of-back.ensures s.log table come.may_follow) in
    after_fetch stored s (engine_view stored it.log c.bring_into.new.pool media).state _ c.args.page it.txns.table c.note_in_room.new.self.table
    it.pool c.bring_into.new.pool c.change.new.self media c.add.new.self.made r c.self.invariant come within c.requires.page
    (came g c) of_log noted (c.change.ensures.kept (log_of s) of_log (valid_with s r fit come)) back (grown g c)

pub returns-clause-ok : goal.returns-clause-ok
returns-clause-ok g c =
    subst (λ (v : EngineView g.row.S.Denot g.row.D.Denot).
    (engine_view g.S.PageStore.stored c.append.new.self c.change.new.self
    (media_view c.self.inside.master c.self.inside.session c.self.inside.vault.copies c.self.inside.returns.made)).state
    ≡ with_appended (with_page v.state c.args.page) c.args.next) c.self.view_is
    (grown g c ∙ ap (λ (t : EngineState). with_appended t c.args.next) (came g c))

pub returns-clause-store : goal.returns-clause-store
returns-clause-store g c =
    let it = c.self.inside in
    let store = g.S.PageStore in
    let media = media_view it.master it.session it.vault.copies it.returns.made in
    let within : c.args.page < length it.pool.states =
    omega (arith, c.requires.within, ap (λ v. volume_pages v.state) c.self.view_is, c.self.invariant.pool_of_log.pages) in
    rw (← c.self.view_is)
    (page_was_asked store.stored store.gave store.wrote store.grew store.failures it.log it.pool media _ c.args.page within _
    c.bring_into.new.pool.store c.change.ensures.store c.in_ok-bring_into.ensures.store)
