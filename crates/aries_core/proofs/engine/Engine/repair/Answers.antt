use Rattle.std.proofs.Common.{◌≡◌, ◌∙◌, ◌<◌, ◌≤◌, ℕ, List, length, max, take, ap, subst, sym, arith}
use Rattle.std.specs.Prelude.{None, Result, Ok, Err, OnOk, is_err, false}
use Rattle.page_core.specs.declared.numbers.Lsn.{Lsn}
use Rattle.page_core.specs.declared.page.Page.{Page}
use Rattle.log_records.specs.declared.record.Record.{Record}
use Rattle.log_records.specs.Coverage.{IsPast}
use Rattle.log_records.specs.Image.{image}
use Rattle.log_records.specs.Log.{Log}
use Rattle.log_records.proofs.Public.{number-image}
use Rattle.log_store.specs.WrittenLog.{WrittenLog, end_up_to}
use Rattle.engine_calls.specs.declared.event.Answer.TheVariants as answer
use Rattle.engine_calls.specs.declared.event.Event.TheVariants as event
use Rattle.engine_calls.specs.declared.refusal.Refusal.{Refusal}
use Rattle.engine_rules.specs.EngineState.{log_of}
use Rattle.engine_rules.specs.EngineView.{EngineView, engine_view}
use Rattle.engine_rules.specs.Refusal.{refusal}
use Rattle.engine_rules.specs.Step.{Step, reply_of}
use Rattle.page_store.specs.declared.store.StoreFault.{StoreFault}
use Rattle.aries_core.specs.OpenCkpt.{media_view}
use Rattle.engine_rules.proofs.Public.{repair_passes}
use Rattle.aries_core.proofs.Repairs.{done, half_done, not_forced}
use Rattle.engine_calls.specs.declared.refusal.Refusal.TheVariants.{LogFault}
use Rattle.aries_core.proofs.Asks.{failing, said}
use Rattle.aries_core.proofs.Uses.{asked_in_vain, force_failed, was_asked, was_forced, was_forced_first}
use Rattle.aries_core.proofs.WriteCalls.{Called, force_kept}
use Rattle.aries_core.proofs.engine.Engine.repair.Goals.{in-Ok, in-Err}
use Rattle.aries_core.proofs.engine.Engine.repair.Given as given
use Rattle.aries_core.proofs.engine.Engine.repair.Goals as goal

-- the page that is rolled forward is the page as it is now
numbered : (rs : List Record) (p : ℕ) (page : Page) → IsPast rs p page → page.number ≡ p
numbered rs p page past = ap (λ (q : Page). q.number) past.made ∙ number-image (take past.count rs) p

rolled_is : {E : Type 0} (rs : List Record) (p : ℕ) (page q : Page) (r : Result (Unit {0}) E) → is_err r ≡ false
    → IsPast rs p page → OnOk r (q ≡ image rs page.number) → q ≡ image rs p
rolled_is rs p page q r ok past rolled = said r _ ok rolled ∙ ap (image rs) (numbered rs p page past)

call : (g : given.Over) (c : goal.Joined-repair g)
    → Called g.S.PageStore.stored c.self.inside.log c.force_to.new.self c.self.inside.txns.table c.self.inside.pool
    c.repair.new.self
    (media_view c.self.inside.master c.self.inside.session c.self.inside.vault.copies c.self.inside.returns.made)
    (event.Repair c.args.copy c.args.page) (reply_of (λ lsn. answer.Repaired lsn) c.match-repair.result)
call g c =
    let it = c.self.inside in
    let stored = g.S.PageStore.stored in
    let media = media_view it.master it.session it.vault.copies it.returns.made in
    let copy = c.args.copy in
    let p = c.args.page in
    let q = c.roll_forward.new.page in
    let s = (engine_view stored it.log it.pool media).state in
    let none : refusal s (event.Repair copy p) ≡ None =
    subst (λ (v : EngineView g.row.S.Denot g.row.D.Denot). refusal v.state (event.Repair copy p) ≡ None)
    (sym c.self.view_is) c.in_ok-find_repairable.ensures.may in
    let count = c.self.invariant.pool_of_log.pages in
    let below = (repair_passes s copy p none).within in
    let within : p < length it.pool.states = omega arith in
    let past = subst (λ (v : EngineView g.row.S.Denot g.row.D.Denot). IsPast v.state.log p c.in_ok-rebuilt.rebuilt)
    (sym c.self.view_is) c.in_ok-rebuilt.ensures.past in
    let now = rolled_is it.log.log.records p c.in_ok-rebuilt.rebuilt q c.roll_forward.result
    (sym c.is_err.ensures.value ∙ c.if-is_err.false) past c.roll_forward.ensures.image in
    let rolled : c.roll_forward.new.self ≡ it.log = c.roll_forward.ensures.same in
    let same : c.force_to.new.self.log ≡ it.log.log =
    c.force_to.ensures.same ∙ ap (λ (w : WrittenLog g.row.D.Denot). w.log) rolled in
    let forced = subst (λ (w : WrittenLog g.row.D.Denot). c.force_to.new.self.forced_end
    ≡ max w.forced_end (end_up_to w.log q.lsn)) rolled
    (said c.force_to.result _ (sym c.is_err-2.ensures.value ∙ c.if-is_err-2.false) c.force_to.ensures.forced) in
    let of_log = c.repair.ensures.kept (log_of s) c.self.invariant.pool_of_log now in
    elim c.match-repair.branch [
      | in-Ok w ↦
          subst (λ (r : Result Lsn Refusal). Called stored it.log c.force_to.new.self it.txns.table it.pool c.repair.new.self
          media (event.Repair copy p) (reply_of (λ lsn. answer.Repaired lsn) r)) (sym w.result-is)
          (done stored it.log c.force_to.new.self it.txns.table it.pool c.repair.new.self media copy p q
          c.self.invariant none within now same forced
          w.in-Ok.ensures.stored w.in-Ok.ensures.clean of_log)
      | in-Err w ↦
          subst (λ (r : Result Lsn Refusal). Called stored it.log c.force_to.new.self it.txns.table it.pool c.repair.new.self
          media (event.Repair copy p) (reply_of (λ lsn. answer.Repaired lsn) r)) (sym w.result-is)
          (half_done stored it.log c.force_to.new.self it.txns.table it.pool c.repair.new.self media copy p q
          c.self.invariant none within now same forced
          w.in-Err.ensures.either w.in-Err.ensures.stays of_log)
    ]

pub roll_forward-requires : goal.roll_forward-requires
roll_forward-requires g c =
    let rs = c.self.inside.log.log.records in
    let page = c.in_ok-rebuilt.rebuilt in
    let past = subst (λ (v : EngineView g.row.S.Denot g.row.D.Denot). IsPast v.state.log c.args.page page)
    (sym c.self.view_is) c.in_ok-rebuilt.ensures.past in
    record { past = subst (λ (n : ℕ). IsPast rs n page) (sym (numbered rs c.args.page page past)) past }

pub repair-requires-clause-now : goal.repair-requires-clause-now
repair-requires-clause-now g c =
    let it = c.self.inside in
    let s = (engine_view g.S.PageStore.stored it.log it.pool
    (media_view it.master it.session it.vault.copies it.returns.made)).state in
    let past = subst (λ (v : EngineView g.row.S.Denot g.row.D.Denot). IsPast v.state.log c.args.page c.in_ok-rebuilt.rebuilt)
    (sym c.self.view_is) c.in_ok-rebuilt.ensures.past in (
      log_of s,
      (
        c.self.invariant.pool_of_log,
        rolled_is it.log.log.records c.args.page c.in_ok-rebuilt.rebuilt c.roll_forward.new.page c.roll_forward.result
            (sym c.is_err.ensures.value ∙ c.if-is_err.false) past c.roll_forward.ensures.image,
      ),
    )

pub returns-then-is_err-2-clause-step : goal.returns-then-is_err-2-clause-step
returns-then-is_err-2-clause-step g c =
    let it = c.self.inside in
    let p = c.args.page in
    let q = c.roll_forward.new.page in
    let media = media_view it.master it.session it.vault.copies it.returns.made in
    let none = subst (λ (v : EngineView g.row.S.Denot g.row.D.Denot). refusal v.state (event.Repair c.args.copy p) ≡ None)
    (sym c.self.view_is) c.in_ok-find_repairable.ensures.may in
    let past = subst (λ (v : EngineView g.row.S.Denot g.row.D.Denot). IsPast v.state.log p c.in_ok-rebuilt.rebuilt)
    (sym c.self.view_is) c.in_ok-rebuilt.ensures.past in
    let now = rolled_is it.log.log.records p c.in_ok-rebuilt.rebuilt q c.roll_forward.result
    (sym c.is_err.ensures.value ∙ c.if-is_err.false) past c.roll_forward.ensures.image in
    let rolled : c.roll_forward.new.self ≡ it.log = c.roll_forward.ensures.same in
    subst (λ (v : EngineView g.row.S.Denot g.row.D.Denot). Step v.state (event.Repair c.args.copy p) (Err LogFault)
    (engine_view g.S.PageStore.stored c.force_to.new.self it.pool media).state) c.self.view_is
    (not_forced g.S.PageStore.stored it.log c.force_to.new.self it.pool media c.args.copy p q none now
    (c.force_to.ensures.same ∙ ap (λ (w : WrittenLog g.row.D.Denot). w.log) rolled)
    (subst (λ (w : WrittenLog g.row.D.Denot). w.forced_end ≤ c.force_to.new.self.forced_end) rolled c.force_to.ensures.rising)
    c.force_to.ensures.at_record
    (subst (λ (w : WrittenLog g.row.D.Denot). c.force_to.new.self.forced_end < end_up_to w.log q.lsn) rolled
    (failing c.force_to.result _ (sym c.is_err-2.ensures.value ∙ c.if-is_err-2.true) c.force_to.ensures.short)))

pub invariant_of-self-then-is_err-2 : goal.invariant_of-self-then-is_err-2
invariant_of-self-then-is_err-2 g c =
    let it = c.self.inside in
    let rolled : c.roll_forward.new.self ≡ it.log = c.roll_forward.ensures.same in
    force_kept g.S.PageStore.stored it.log c.force_to.new.self it.txns.table it.pool
    (media_view it.master it.session it.vault.copies it.returns.made)
    c.self.invariant (c.force_to.ensures.same ∙ ap (λ (w : WrittenLog g.row.D.Denot). w.log) rolled)
    (subst (λ (w : WrittenLog g.row.D.Denot). w.forced_end ≤ c.force_to.new.self.forced_end) rolled c.force_to.ensures.rising)
    c.force_to.ensures.at_record

pub invariant_of-self-2 : goal.invariant_of-self-2
invariant_of-self-2 g c = (call g c).kept

pub returns-clause-step : goal.returns-clause-step
returns-clause-step g c =
    subst (λ (v : EngineView g.row.S.Denot g.row.D.Denot). Step v.state (event.Repair c.args.copy c.args.page)
    (reply_of (λ lsn. answer.Repaired lsn) c.match-repair.result)
    (engine_view g.S.PageStore.stored c.force_to.new.self c.repair.new.self
    (media_view c.self.inside.master c.self.inside.session c.self.inside.vault.copies c.self.inside.returns.made)).state)
    c.self.view_is (call g c).step

pub returns-clause-store : goal.returns-clause-store
returns-clause-store g c =
    let it = c.self.inside in
    let wrote = g.S.PageStore.wrote in
    let p = c.args.page in
    let q = c.roll_forward.new.page in
    let past = subst (λ (v : EngineView g.row.S.Denot g.row.D.Denot). IsPast v.state.log p c.in_ok-rebuilt.rebuilt)
    (sym c.self.view_is) c.in_ok-rebuilt.ensures.past in
    let same : q ≡ image it.log.log.records p =
    rolled_is it.log.log.records p c.in_ok-rebuilt.rebuilt q c.roll_forward.result
    (sym c.is_err.ensures.value ∙ c.if-is_err.false) past c.roll_forward.ensures.image in
    rw (← c.self.view_is)
    (elim c.match-repair.branch [
      | in-Ok w ↦
          rw w.result-is
          (was_asked _ (subst (λ (x : Page). wrote it.pool.store p x (Ok tt) c.repair.new.self.store) same
          w.in-Ok.ensures.wrote) w.in-Ok.ensures.no_failure)
      | in-Err w ↦
          rw w.result-is
          (asked_in_vain (subst (λ (x : Page). (why : StoreFault) × wrote it.pool.store p x (Err why) c.repair.new.self.store)
          same (_, w.in-Err.ensures.wrote)) w.in-Err.ensures.failure)
    ])

pub returns-then-is_err-2-clause-device : goal.returns-then-is_err-2-clause-device
returns-then-is_err-2-clause-device g c =
    let err = sym c.is_err-2.ensures.value ∙ c.if-is_err-2.true in
    let records = ap (λ (l : Log). length l.records) c.force_to.ensures.same in
    rw (← c.self.view_is, ← c.roll_forward.ensures.same)
    (force_failed LogFault tt (failing c.force_to.result _ err c.force_to.ensures.last_call)
    (failing c.force_to.result _ err c.force_to.ensures.failure) c.force_to.ensures.same_bound
    (omega (arith, records, failing c.force_to.result _ err c.force_to.ensures.past_bound)))

pub returns-clause-device : goal.returns-clause-device
returns-clause-device g c =
    let ok = sym c.is_err-2.ensures.value ∙ c.if-is_err-2.false in
    let forced = said c.force_to.result _ ok c.force_to.ensures.called in
    let quiet = said c.force_to.result _ ok c.force_to.ensures.no_failure in
    rw (← c.self.view_is, ← c.roll_forward.ensures.same)
    (elim c.match-repair.branch [
      | in-Ok w ↦ rw w.result-is (was_forced _ forced quiet c.force_to.ensures.same_bound)
      | in-Err w ↦ rw w.result-is (was_forced_first forced quiet c.force_to.ensures.same_bound)
    ])
