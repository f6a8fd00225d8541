use Rattle.std.proofs.Common.{◌≡◌, ℕ, ◌≤◌, false, [], ◌∷◌, length, refl, sym, ap, subst, ◌∙◌, arith}
use Rattle.std.specs.Prelude.{None, Result, Ok, Err, is_err}
use Rattle.std.proofs.lemmas.List.{length-take}
use Rattle.log_records.specs.declared.record.Record.TheVariants.{Extend}
use Rattle.log_records.specs.Log.{Log, lsn_of, with_next}
use Rattle.buffer_pool.specs.Pool.{PoolView}
use Rattle.page_store.specs.declared.store.StoreFault.{StoreFault}
use Rattle.engine_calls.specs.declared.event.Answer.TheVariants as answer
use Rattle.engine_calls.specs.declared.event.Event.TheVariants as event
use Rattle.engine_rules.specs.EngineState.{EngineState, end, extend_record, log_of}
use Rattle.engine_rules.specs.EngineView.{EngineView, IsConsistent, engine_view}
use Rattle.aries_core.specs.OpenCkpt.{media_view}
use Rattle.engine_rules.specs.Refusal.{refusal}
use Rattle.engine_rules.specs.Step.{Step}
use Rattle.aries_core.proofs.Asks.{failing, said}
use Rattle.aries_core.proofs.Uses.{was_asked}
use Rattle.aries_core.proofs.Extends.{extended_is, kept_extended, unextended_is}
use Rattle.engine_rules.proofs.Public.{extended, extended_fit}
use Rattle.engine_rules.proofs.Public.{extend_passes}
use Rattle.aries_core.proofs.engine.Engine.extend.Given as given
use Rattle.aries_core.proofs.engine.Engine.extend.Goals as goal

is_done : (r : Result Unit StoreFault) → is_err r ≡ false → r ≡ Ok tt
is_done (Ok done) ok = refl
is_done (Err e) ok = cc

pub invariant_of-self-then-is_err-2 : goal.invariant_of-self-then-is_err-2
invariant_of-self-then-is_err-2 g c =
    let it = c.self.inside in
    let stored = g.S.PageStore.stored in
    let media = media_view it.master it.session it.vault.copies it.returns.made in
    let kept = c.self.invariant in
    let err = sym c.is_err-2.ensures.value ∙ c.if-is_err-2.true in
    let enough : length it.pool.states ≤ length (stored it.pool.store) =
    omega (
      arith,
      kept.fit.counted.stored,
      kept.pool_of_log.pages,
      length-take (length it.pool.states) (stored it.pool.store),
    ) in
    let state = unextended_is stored it.log c.make_room.new.self it.pool c.grow.new.self media
    c.make_room.ensures.same c.make_room.ensures.forced_end enough c.grow.ensures.stored
    (failing c.grow.result _ err c.grow.ensures.stays) in
    subst (λ (t : EngineState). IsConsistent stored t it.txns.table c.grow.new.self media) (sym state) (record {
      fit = kept.fit;
      table_of_log = kept.table_of_log;
      pool_of_log = failing c.grow.result _ err c.grow.ensures.kept it.log.log kept.pool_of_log;
      session_of_log = kept.session_of_log;
      returns_of_log = kept.returns_of_log;
    })

is_free : (g : given.Over) (c : goal.After-append g)
    → refusal (engine_view g.S.PageStore.stored c.self.inside.log c.self.inside.pool
    (media_view c.self.inside.master c.self.inside.session c.self.inside.vault.copies c.self.inside.returns.made)).state
    (event.Extend c.args.count) ≡ None
is_free g c =
    subst (λ (v : EngineView g.row.S.Denot g.row.D.Denot). refusal v.state (event.Extend c.args.count) ≡ None)
    (sym c.self.view_is) c.in_ok-find_larger.ensures.larger

lsn_is : (g : given.Over) (c : goal.After-append g) → c.end-lsn.result ≡ lsn_of (length c.self.inside.log.log.records)
lsn_is g c = c.end-lsn.ensures ∙ ap (λ (l : Log). lsn_of (length l.records)) c.make_room.ensures.same

state_after : (g : given.Over) (c : goal.After-append g)
    → (engine_view g.S.PageStore.stored c.append.new.self c.grow.new.self
    (media_view c.self.inside.master c.self.inside.session c.self.inside.vault.copies c.self.inside.returns.made)).state
    ≡ extended (engine_view g.S.PageStore.stored c.self.inside.log c.self.inside.pool
    (media_view c.self.inside.master c.self.inside.session c.self.inside.vault.copies c.self.inside.returns.made)).state
    c.args.count
state_after g c =
    let it = c.self.inside in
    let stored = g.S.PageStore.stored in
    let media = media_view it.master it.session it.vault.copies it.returns.made in
    let s = (engine_view stored it.log it.pool media).state in
    let kept = c.self.invariant in
    let ok = sym c.is_err-2.ensures.value ∙ c.if-is_err-2.false in
    let enough : length it.pool.states ≤ length (stored it.pool.store) =
    omega (
      arith,
      kept.fit.counted.stored,
      kept.pool_of_log.pages,
      length-take (length it.pool.states) (stored it.pool.store),
    ) in
    let passes = extend_passes s c.args.count (is_free g c) in
    let more : length it.pool.states ≤ c.args.count = omega (arith, kept.pool_of_log.pages, passes.more) in
    let next : c.append.new.self.log ≡ with_next it.log.log (extend_record s c.args.count ∷ []) =
    c.append.ensures.next
    ∙ ap (λ (l : Log). with_next l (Extend c.end-lsn.result c.args.count ∷ [])) c.make_room.ensures.same
    ∙ ap (λ (n : ℕ). with_next it.log.log (Extend n c.args.count ∷ [])) (lsn_is g c) in
    let pool = said c.grow.result _ ok c.grow.ensures.grown in
    extended_is stored it.log c.append.new.self it.pool c.grow.new.self media c.args.count kept.pool_of_log enough more
    c.grow.ensures.stored (said c.grow.result _ ok c.grow.ensures.enough) next
    (c.append.ensures.forced_end ∙ c.make_room.ensures.forced_end)
    (ap (λ (v : PoolView g.row.S.Denot). v.frames) pool) (ap (λ (v : PoolView g.row.S.Denot). v.resident) pool)
    (ap (λ (v : PoolView g.row.S.Denot). v.states) pool)

pub invariant_of-self-2 : goal.invariant_of-self-2
invariant_of-self-2 g c =
    let it = c.self.inside in
    let stored = g.S.PageStore.stored in
    let media = media_view it.master it.session it.vault.copies it.returns.made in
    let s = (engine_view stored it.log it.pool media).state in
    let kept = c.self.invariant in
    let ok = sym c.is_err-2.ensures.value ∙ c.if-is_err-2.false in
    let valid = (extended_fit s c.args.count kept.fit (is_free g c)).valid in
    let of_log = said c.grow.result _ ok c.grow.ensures.next (log_of s) (end s) kept.pool_of_log valid in
    subst (λ (t : EngineState). IsConsistent stored t it.txns.table c.grow.new.self media) (sym (state_after g c))
    (kept_extended stored s it.txns.table it.pool c.grow.new.self media c.args.count kept (is_free g c) of_log)

pub returns-clause-step : goal.returns-clause-step
returns-clause-step g c =
    let it = c.self.inside in
    subst (λ (v : EngineView g.row.S.Denot g.row.D.Denot). Step v.state (event.Extend c.args.count)
    (Ok (answer.Logged c.end-lsn.result)) (engine_view g.S.PageStore.stored c.append.new.self c.grow.new.self
    (media_view it.master it.session it.vault.copies it.returns.made)).state) c.self.view_is
    (is_free g c, ap answer.Logged (lsn_is g c), state_after g c)

pub returns-clause-store : goal.returns-clause-store
returns-clause-store g c =
    let ok = sym c.is_err-2.ensures.value ∙ c.if-is_err-2.false in
    rw (← c.self.view_is)
    (was_asked c.end-lsn.result
    (subst (λ (r : Result Unit StoreFault). g.S.PageStore.grew c.self.inside.pool.store c.args.count r c.grow.new.self.store)
    (is_done c.grow.result ok) c.grow.ensures.grew) (said c.grow.result _ ok c.grow.ensures.no_failure))
