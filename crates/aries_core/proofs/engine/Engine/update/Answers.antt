use Rattle.std.proofs.Common.{◌≡◌, ◌<◌, ◌∙◌, ℕ, ap, arith, get_or, length, refl, subst, sym}
use Rattle.page_core.specs.declared.page.Page.{Page}
use Rattle.log_records.specs.declared.record.Record.TheVariants.{Update}
use Rattle.log_records.specs.Image.{image}
use Rattle.log_records.specs.Log.{Log, StandsAt, lsn_of, page_count}
use Rattle.txn_table.specs.TxnTable.{IsTableOf}
use Rattle.engine_rules.specs.EngineState.{EngineState, with_appended, end, log_of, volume_pages, with_page}
use Rattle.engine_rules.specs.EngineView.{EngineView, engine_view}
use Rattle.engine_rules.proofs.Public.{comes_few, slot_passes}
use Rattle.aries_core.specs.Fetching.{with_before}
use Rattle.aries_core.specs.OpenCkpt.{media_view}
use Rattle.aries_core.proofs.Appends.{after_fetch, appended_is, valid_with}
use Rattle.aries_core.proofs.Asks.{brought_is, said}
use Rattle.txn_table.proofs.Public.{returns_stay}
use Rattle.aries_core.proofs.Updates.{update_comes, update_is}
use Rattle.aries_core.proofs.engine.Engine.update.Given as given
use Rattle.aries_core.proofs.engine.Engine.update.Goals as goal

pub note_in_room-requires-clause-follows : goal.note_in_room-requires-clause-follows
note_in_room-requires-clause-follows g c =
    let it = c.self.inside in
    let stored = g.S.PageStore.stored in
    let media = media_view it.master it.session it.vault.copies it.returns.made in
    let s = (engine_view stored it.log it.pool media).state in
    let of_log = c.bring_into.ensures.kept (log_of s) c.self.invariant.pool_of_log in
    let come = update_comes c.args.self.now.state s (ap (λ (v : EngineView g.row.S.Denot g.row.D.Denot). v.state)
    c.self.view_is) c.args.txn c.args.prev c.args.page c.args.slot c.end-lsn.result c.args.change c.with_number.result
    c.requires.last
    (c.end-lsn.ensures ∙ ap (λ (l : Log). lsn_of (length l.records)) c.make_room.ensures.same)
    (c.with_number.ensures ∙ ap (with_before c.args.change)
    (ap (λ (q : Page). get_or q.slots c.slot.inside.0 0) (c.current.ensures.image (log_of s) of_log)
    ∙ ap (λ (n : ℕ). get_or (image s.log c.args.page).slots n 0) c.slot.view_is))
    c.self.invariant.fit c.requires.called in
    (s.log, (subst (IsTableOf s.log) (sym c.make_room-else-is_err.ensures.same) c.self.invariant.table_of_log, come.may_follow))

pub note_in_room-requires-clause-room : goal.note_in_room-requires-clause-room
note_in_room-requires-clause-room g c =
    let it = c.self.inside in
    let stored = g.S.PageStore.stored in
    let media = media_view it.master it.session it.vault.copies it.returns.made in
    let s = (engine_view stored it.log it.pool media).state in
    let of_log = c.bring_into.ensures.kept (log_of s) c.self.invariant.pool_of_log in
    let come = update_comes c.args.self.now.state s (ap (λ (v : EngineView g.row.S.Denot g.row.D.Denot). v.state)
    c.self.view_is) c.args.txn c.args.prev c.args.page c.args.slot c.end-lsn.result c.args.change c.with_number.result
    c.requires.last
    (c.end-lsn.ensures ∙ ap (λ (l : Log). lsn_of (length l.records)) c.make_room.ensures.same)
    (c.with_number.ensures ∙ ap (with_before c.args.change)
    (ap (λ (q : Page). get_or q.slots c.slot.inside.0 0) (c.current.ensures.image (log_of s) of_log)
    ∙ ap (λ (n : ℕ). get_or (image s.log c.args.page).slots n 0) c.slot.view_is))
    c.self.invariant.fit c.requires.called in
    said c.make_room-else-is_err.result _ (sym c.is_err-else-is_err.ensures.value ∙ c.if-is_err-2.false)
    c.make_room-else-is_err.ensures.room s.log c.self.invariant.table_of_log come.may_follow.active.goes_on.still_open

pub append-requires-clause-stands : goal.append-requires-clause-stands
append-requires-clause-stands g c =
    let it = c.self.inside in
    let stored = g.S.PageStore.stored in
    let media = media_view it.master it.session it.vault.copies it.returns.made in
    let s = (engine_view stored it.log it.pool media).state in
    let of_log = c.bring_into.ensures.kept (log_of s) c.self.invariant.pool_of_log in
    let come = update_comes c.args.self.now.state s (ap (λ (v : EngineView g.row.S.Denot g.row.D.Denot). v.state)
    c.self.view_is) c.args.txn c.args.prev c.args.page c.args.slot c.end-lsn.result c.args.change c.with_number.result
    c.requires.last
    (c.end-lsn.ensures ∙ ap (λ (l : Log). lsn_of (length l.records)) c.make_room.ensures.same)
    (c.with_number.ensures ∙ ap (with_before c.args.change)
    (ap (λ (q : Page). get_or q.slots c.slot.inside.0 0) (c.current.ensures.image (log_of s) of_log)
    ∙ ap (λ (n : ℕ). get_or (image s.log c.args.page).slots n 0) c.slot.view_is))
    c.self.invariant.fit c.requires.called in
    let next = Update c.end-lsn.result c.args.txn c.args.prev c.args.page c.args.slot c.with_number.result in
    subst (λ (l : Log). StandsAt (page_count l) (lsn_of (length l.records)) next) (sym c.make_room.ensures.same)
    come.stands_at

pub append-requires-clause-few : goal.append-requires-clause-few
append-requires-clause-few g c =
    let it = c.self.inside in
    let stored = g.S.PageStore.stored in
    let media = media_view it.master it.session it.vault.copies it.returns.made in
    let s = (engine_view stored it.log it.pool media).state in
    let of_log = c.bring_into.ensures.kept (log_of s) c.self.invariant.pool_of_log in
    let come = update_comes c.args.self.now.state s (ap (λ (v : EngineView g.row.S.Denot g.row.D.Denot). v.state)
    c.self.view_is) c.args.txn c.args.prev c.args.page c.args.slot c.end-lsn.result c.args.change c.with_number.result
    c.requires.last
    (c.end-lsn.ensures ∙ ap (λ (l : Log). lsn_of (length l.records)) c.make_room.ensures.same)
    (c.with_number.ensures ∙ ap (with_before c.args.change)
    (ap (λ (q : Page). get_or q.slots c.slot.inside.0 0) (c.current.ensures.image (log_of s) of_log)
    ∙ ap (λ (n : ℕ). get_or (image s.log c.args.page).slots n 0) c.slot.view_is))
    c.self.invariant.fit c.requires.called in
    let next = Update c.end-lsn.result c.args.txn c.args.prev c.args.page c.args.slot c.with_number.result in
    let few = comes_few s next come in
    omega (arith, few, ap (λ (l : Log). length l.records) c.make_room.ensures.same)

pub change-requires-clause-next : goal.change-requires-clause-next
change-requires-clause-next g c =
    let it = c.self.inside in
    let stored = g.S.PageStore.stored in
    let media = media_view it.master it.session it.vault.copies it.returns.made in
    let s = (engine_view stored it.log it.pool media).state in
    let of_log = c.bring_into.ensures.kept (log_of s) c.self.invariant.pool_of_log in
    let come = update_comes c.args.self.now.state s (ap (λ (v : EngineView g.row.S.Denot g.row.D.Denot). v.state)
    c.self.view_is) c.args.txn c.args.prev c.args.page c.args.slot c.end-lsn.result c.args.change c.with_number.result
    c.requires.last
    (c.end-lsn.ensures ∙ ap (λ (l : Log). lsn_of (length l.records)) c.make_room.ensures.same)
    (c.with_number.ensures ∙ ap (with_before c.args.change)
    (ap (λ (q : Page). get_or q.slots c.slot.inside.0 0) (c.current.ensures.image (log_of s) of_log)
    ∙ ap (λ (n : ℕ). get_or (image s.log c.args.page).slots n 0) c.slot.view_is))
    c.self.invariant.fit c.requires.called in
    let next = Update c.end-lsn.result c.args.txn c.args.prev c.args.page c.args.slot c.with_number.result in
    (log_of s, (of_log, valid_with s next c.self.invariant.fit come))

came : (g : given.Over) (c : goal.After-change g)
    → (engine_view g.S.PageStore.stored c.self.inside.log c.bring_into.new.pool
    (media_view c.self.inside.master c.self.inside.session c.self.inside.vault.copies c.self.inside.returns.made)).state
    ≡ with_page (engine_view g.S.PageStore.stored c.self.inside.log c.self.inside.pool
    (media_view c.self.inside.master c.self.inside.session c.self.inside.vault.copies c.self.inside.returns.made)).state
    c.args.page
came g c =
    let it = c.self.inside in
    let stored = g.S.PageStore.stored in
    let media = media_view it.master it.session it.vault.copies it.returns.made in
    let s = (engine_view stored it.log it.pool media).state in
    brought_is stored it.log it.pool c.bring_into.new.pool media c.args.page
    (omega (
      arith,
      (slot_passes c.args.self.now.state c.args.page c.args.slot c.requires.place).within,
      ap (λ (v : EngineView g.row.S.Denot g.row.D.Denot). volume_pages v.state) c.self.view_is,
      c.self.invariant.pool_of_log.pages,
    )) c.bring_into.ensures.rest (c.in_ok-bring_into.ensures.came (log_of s) c.self.invariant.pool_of_log)

grown : (g : given.Over) (c : goal.After-change g)
    → (engine_view g.S.PageStore.stored c.append.new.self c.change.new.self
    (media_view c.self.inside.master c.self.inside.session c.self.inside.vault.copies c.self.inside.returns.made)).state
    ≡ with_appended (engine_view g.S.PageStore.stored c.self.inside.log c.bring_into.new.pool
    (media_view c.self.inside.master c.self.inside.session c.self.inside.vault.copies c.self.inside.returns.made)).state
    (Update c.end-lsn.result c.args.txn c.args.prev c.args.page c.args.slot c.with_number.result)
grown g c =
    let it = c.self.inside in
    let stored = g.S.PageStore.stored in
    let media = media_view it.master it.session it.vault.copies it.returns.made in
    let next = Update c.end-lsn.result c.args.txn c.args.prev c.args.page c.args.slot c.with_number.result in
    appended_is stored it.log c.make_room.new.self c.append.new.self c.bring_into.new.pool c.change.new.self media
    next c.make_room.ensures.same c.make_room.ensures.forced_end c.append.ensures.next c.append.ensures.forced_end
    (ap (λ x. stored x) c.change.ensures.store) c.change.ensures.frames c.change.ensures.pages
    c.change.ensures.written c.change.ensures.writing

pub invariant_of-self-2 : goal.invariant_of-self-2
invariant_of-self-2 g c =
    let it = c.self.inside in
    let stored = g.S.PageStore.stored in
    let media = media_view it.master it.session it.vault.copies it.returns.made in
    let s = (engine_view stored it.log it.pool media).state in
    let of_log = c.bring_into.ensures.kept (log_of s) c.self.invariant.pool_of_log in
    let come = update_comes c.args.self.now.state s (ap (λ (v : EngineView g.row.S.Denot g.row.D.Denot). v.state)
    c.self.view_is) c.args.txn c.args.prev c.args.page c.args.slot c.end-lsn.result c.args.change c.with_number.result
    c.requires.last
    (c.end-lsn.ensures ∙ ap (λ (l : Log). lsn_of (length l.records)) c.make_room.ensures.same)
    (c.with_number.ensures ∙ ap (with_before c.args.change)
    (ap (λ (q : Page). get_or q.slots c.slot.inside.0 0) (c.current.ensures.image (log_of s) of_log)
    ∙ ap (λ (n : ℕ). get_or (image s.log c.args.page).slots n 0) c.slot.view_is))
    c.self.invariant.fit c.requires.called in
    let next = Update c.end-lsn.result c.args.txn c.args.prev c.args.page c.args.slot c.with_number.result in
    let within : c.args.page < volume_pages s =
    subst (λ (v : EngineView g.row.S.Denot g.row.D.Denot). c.args.page < volume_pages v.state) (sym c.self.view_is)
    (slot_passes c.args.self.now.state c.args.page c.args.slot c.requires.place).within in
    let noted = c.note_in_room.ensures s.log
    (subst (IsTableOf s.log) (sym c.make_room-else-is_err.ensures.same) c.self.invariant.table_of_log)
    come.may_follow in
    after_fetch stored s (engine_view stored it.log c.bring_into.new.pool media).state _ c.args.page it.txns.table
    c.note_in_room.new.self.table it.pool c.bring_into.new.pool c.change.new.self media it.returns.made next
    c.self.invariant come within refl (came g c) of_log noted
    (c.change.ensures.kept (log_of s) of_log (valid_with s next c.self.invariant.fit come))
    (returns_stay s.log next it.returns.made refl come.may_follow c.self.invariant.returns_of_log) (grown g c)

pub returns-clause-ok : goal.returns-clause-ok
returns-clause-ok g c =
    let it = c.self.inside in
    let stored = g.S.PageStore.stored in
    let media = media_view it.master it.session it.vault.copies it.returns.made in
    let s = (engine_view stored it.log it.pool media).state in
    let of_log = c.bring_into.ensures.kept (log_of s) c.self.invariant.pool_of_log in
    let next = Update c.end-lsn.result c.args.txn c.args.prev c.args.page c.args.slot c.with_number.result in
    let same = ap (λ (v : EngineView g.row.S.Denot g.row.D.Denot). v.state) c.self.view_is in
    let place = c.end-lsn.ensures ∙ ap (λ (l : Log). lsn_of (length l.records)) c.make_room.ensures.same in
    let number = c.with_number.ensures ∙ ap (with_before c.args.change)
    (ap (λ (q : Page). get_or q.slots c.slot.inside.0 0) (c.current.ensures.image (log_of s) of_log)
    ∙ ap (λ (n : ℕ). get_or (image s.log c.args.page).slots n 0) c.slot.view_is) in (
      place ∙ ap end same,
      grown g c ∙ ap (λ (t : EngineState). with_appended t next) (came g c)
          ∙ ap (λ (t : EngineState). with_appended (with_page t c.args.page) next) same
          ∙ ap (with_appended (with_page c.args.self.now.state c.args.page))
          (update_is c.args.self.now.state s same c.args.txn c.args.prev c.args.page c.args.slot c.end-lsn.result
          c.args.change c.with_number.result c.requires.last place number),
    )
