use Rattle.std.proofs.Common.{◌≡◌, length, sym, ap, subst, ◌∙◌, arith}
use Rattle.std.specs.Prelude.{IfSome, Result, Ok, Err, OnOk, is_err, false}
use Rattle.buffer_pool.specs.Frames.{IsResident}
use Rattle.log_records.specs.Record.{change_of}
use Rattle.log_records.proofs.Public.{transaction_gives_none}
use Rattle.log_records.specs.Log.{Log, StandsAt, lsn_of}
use Rattle.log_records.specs.Log.{page_count}
use Rattle.txn_table.specs.Returns.{HasReturns}
use Rattle.engine_rules.specs.Call.{Calls}
use Rattle.engine_rules.specs.EngineState.{EngineState, with_appended, log_of}
use Rattle.engine_rules.specs.EngineView.{EngineView, IsConsistent, engine_view}
use Rattle.aries_core.specs.OpenCkpt.{media_view}
use Rattle.aries_core.proofs.Appends.{appended_is, kept_next, valid_with}
use Rattle.engine_rules.proofs.Public.{comes, comes_few}
use Rattle.aries_core.proofs.engine.Engine.append.Given as given
use Rattle.aries_core.proofs.engine.Engine.append.Goals as goal

-- what an answer that is no `Err` says
said : {T E : Type 0} (r : Result T E) (P : Type 0) → is_err r ≡ false → OnOk r P → P
said (Ok x) P ok h = h
said (Err e) P ok h = cc

pub return_of-back-requires : goal.return_of-back-requires
return_of-back-requires g c =
    let it = c.self.inside in
    let s = (engine_view g.S.PageStore.stored it.log it.pool
    (media_view it.master it.session it.vault.copies it.returns.made)).state in
    let calls : Calls s c.args.next =
    subst (λ (v : EngineView g.row.S.Denot g.row.D.Denot). Calls v.state c.args.next)
    (sym c.self.view_is) c.requires.called in (
      s.log,
      (
        c.self.invariant.table_of_log,
        (comes s c.args.next c.self.invariant.fit calls).may_follow,
      ),
    )

pub note-requires : goal.note-requires
note-requires g c =
    let it = c.self.inside in
    let s = (engine_view g.S.PageStore.stored it.log it.pool
    (media_view it.master it.session it.vault.copies it.returns.made)).state in
    let calls : Calls s c.args.next =
    subst (λ (v : EngineView g.row.S.Denot g.row.D.Denot). Calls v.state c.args.next)
    (sym c.self.view_is) c.requires.called in (
      s.log,
      (
        c.self.invariant.table_of_log,
        (comes s c.args.next c.self.invariant.fit calls).may_follow,
      ),
    )

pub append-requires-clause-stands : goal.append-requires-clause-stands
append-requires-clause-stands g c =
    let it = c.self.inside in
    let s = (engine_view g.S.PageStore.stored it.log it.pool
    (media_view it.master it.session it.vault.copies it.returns.made)).state in
    let calls : Calls s c.args.next =
    subst (λ (v : EngineView g.row.S.Denot g.row.D.Denot). Calls v.state c.args.next) (sym c.self.view_is) c.requires.called in
    subst (λ (l : Log). StandsAt (page_count l) (lsn_of (length l.records)) c.args.next) (sym c.make_room.ensures.same)
    (comes s c.args.next c.self.invariant.fit calls).stands_at

pub append-requires-clause-few : goal.append-requires-clause-few
append-requires-clause-few g c =
    let it = c.self.inside in
    let s = (engine_view g.S.PageStore.stored it.log it.pool
    (media_view it.master it.session it.vault.copies it.returns.made)).state in
    let calls : Calls s c.args.next =
    subst (λ (v : EngineView g.row.S.Denot g.row.D.Denot). Calls v.state c.args.next) (sym c.self.view_is) c.requires.called in
    let few = comes_few s c.args.next (comes s c.args.next c.self.invariant.fit calls) in
    omega (arith, few, ap (λ (l : Log). length l.records) c.make_room.ensures.same)

pub change-requires-clause-next : goal.change-requires-clause-next
change-requires-clause-next g c =
    let it = c.self.inside in
    let s = (engine_view g.S.PageStore.stored it.log it.pool
    (media_view it.master it.session it.vault.copies it.returns.made)).state in
    let calls : Calls s c.args.next =
    subst (λ (v : EngineView g.row.S.Denot g.row.D.Denot). Calls v.state c.args.next)
    (sym c.self.view_is) c.requires.called in (
      log_of s,
      (
        c.self.invariant.pool_of_log,
        valid_with s c.args.next c.self.invariant.fit (comes s c.args.next c.self.invariant.fit calls),
      ),
    )

pub change-requires-clause-same_count : goal.change-requires-clause-same_count
change-requires-clause-same_count g c = transaction_gives_none c.args.next c.requires.called.of_transaction

pub change-requires-clause-resident : goal.change-requires-clause-resident
change-requires-clause-resident g c =
    subst (λ (v : EngineView g.row.S.Denot g.row.D.Denot).
    IfSome (change_of c.args.next) (λ x. IsResident v.state.resident x.page)) (sym c.self.view_is) c.requires.there

state_after : (g : given.Over) (c : goal.After-change g)
    → (engine_view g.S.PageStore.stored c.append.new.self c.change.new.self
    (media_view c.self.inside.master c.self.inside.session c.self.inside.vault.copies c.self.inside.returns.made)).state
    ≡ with_appended (engine_view g.S.PageStore.stored c.self.inside.log c.self.inside.pool
    (media_view c.self.inside.master c.self.inside.session c.self.inside.vault.copies c.self.inside.returns.made)).state
    c.args.next
state_after g c =
    let it = c.self.inside in
    let r = c.args.next in
    let stored = g.S.PageStore.stored in
    let media = media_view it.master it.session it.vault.copies it.returns.made in
    let s = (engine_view stored it.log it.pool media).state in
    let calls : Calls s r =
    subst (λ (v : EngineView g.row.S.Denot g.row.D.Denot). Calls v.state r) (sym c.self.view_is) c.requires.called in
    let come = comes s r c.self.invariant.fit calls in
    appended_is stored it.log c.make_room.new.self c.append.new.self it.pool c.change.new.self media r
    c.make_room.ensures.same c.make_room.ensures.forced_end c.append.ensures.next c.append.ensures.forced_end
    (ap (λ x. stored x) c.change.ensures.store) c.change.ensures.frames
    c.change.ensures.pages c.change.ensures.written c.change.ensures.writing

pub invariant_of-self-2 : goal.invariant_of-self-2
invariant_of-self-2 g c =
    let it = c.self.inside in
    let r = c.args.next in
    let stored = g.S.PageStore.stored in
    let media = media_view it.master it.session it.vault.copies it.returns.made in
    let after = media_view it.master it.session it.vault.copies c.add.new.self.made in
    let s = (engine_view stored it.log it.pool media).state in
    let calls : Calls s r =
    subst (λ (v : EngineView g.row.S.Denot g.row.D.Denot). Calls v.state r) (sym c.self.view_is) c.requires.called in
    let come = comes s r c.self.invariant.fit calls in
    let table = c.self.invariant.table_of_log in
    let noted = said c.note.result _ (sym c.is_err-else-is_err-2.ensures.value ∙ c.if-is_err-3.false) c.note.ensures.ok
    s.log table come.may_follow in
    let changed = c.change.ensures.kept (log_of s) c.self.invariant.pool_of_log
    (valid_with s r c.self.invariant.fit come) in
    let back = c.add.ensures.log s.log r
    (subst (HasReturns s.log) (sym c.make_room-else-is_err.ensures.same) c.self.invariant.returns_of_log)
    come.may_follow (c.return_of-back.ensures s.log table come.may_follow) in
    subst (λ (t : EngineState). IsConsistent stored t c.note.new.self.table c.change.new.self after) (sym (state_after g c))
    (kept_next stored s it.txns.table c.note.new.self.table it.pool c.change.new.self media c.add.new.self.made r c.self.invariant
    come (subst (λ (v : EngineView g.row.S.Denot g.row.D.Denot).
    IfSome (change_of r) (λ x. IsResident v.state.resident x.page)) (sym c.self.view_is) c.requires.there) noted
    changed back)

pub returns-clause-ok : goal.returns-clause-ok
returns-clause-ok g c =
    subst (λ (v : EngineView g.row.S.Denot g.row.D.Denot).
    (engine_view g.S.PageStore.stored c.append.new.self c.change.new.self
    (media_view c.self.inside.master c.self.inside.session c.self.inside.vault.copies c.self.inside.returns.made)).state
    ≡ with_appended v.state c.args.next) c.self.view_is (state_after g c)
