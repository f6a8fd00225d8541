use Rattle.std.proofs.Common.{◌≡◌, ◌<◌, length, sym, subst, arith}
use Rattle.std.specs.Prelude.{None, Result}
use Rattle.page_core.specs.declared.numbers.Lsn.{Lsn}
use Rattle.engine_calls.specs.declared.event.Answer.TheVariants as answer
use Rattle.engine_calls.specs.declared.event.Event.TheVariants as event
use Rattle.engine_calls.specs.declared.refusal.Refusal.{Refusal}
use Rattle.engine_rules.specs.EngineState.{log_of}
use Rattle.engine_rules.specs.EngineView.{EngineView, engine_view}
use Rattle.engine_rules.specs.Refusal.{refusal}
use Rattle.engine_rules.specs.Step.{Step, reply_of}
use Rattle.aries_core.proofs.Asks.{asks_to_store, fails_to_store}
use Rattle.aries_core.specs.OpenCkpt.{media_view}
use Rattle.engine_rules.proofs.Public.{write_end_passes}
use Rattle.aries_core.proofs.Uses.{asked_in_vain, was_asked}
use Rattle.aries_core.proofs.WriteCalls.{Called, ended, repeated}
use Rattle.aries_core.proofs.engine.Engine.write_end.Goals.{in-Ok, in-Err}
use Rattle.aries_core.proofs.engine.Engine.write_end.Given as given
use Rattle.aries_core.proofs.engine.Engine.write_end.Goals as goal

call : (g : given.Over) (c : goal.Joined-write_end g)
    → Called g.S.PageStore.stored c.self.inside.log c.self.inside.log c.self.inside.txns.table c.self.inside.pool
    c.write_end.new.self
    (media_view c.self.inside.master c.self.inside.session c.self.inside.vault.copies c.self.inside.returns.made)
    (event.WriteEnd c.args.page) (reply_of (λ lsn. answer.Written lsn) c.match-write_end.result)
call g c =
    let it = c.self.inside in
    let stored = g.S.PageStore.stored in
    let p = c.args.page in
    let s = (engine_view stored it.log it.pool
    (media_view it.master it.session it.vault.copies it.returns.made)).state in
    let none : refusal s (event.WriteEnd p) ≡ None =
    subst (λ (v : EngineView g.row.S.Denot g.row.D.Denot). refusal v.state (event.WriteEnd p) ≡ None)
    (sym c.self.view_is) c.in_ok-find_writing.ensures.writing in
    let count = c.self.invariant.pool_of_log.pages in
    let below = (write_end_passes s p none).within in
    let within : p < length it.pool.states = omega arith in
    let of_log = c.write_end.ensures.kept (log_of s) c.self.invariant.pool_of_log in
    elim c.match-write_end.branch [
      | in-Ok w ↦
          subst (λ (r : Result Lsn Refusal). Called stored it.log it.log it.txns.table it.pool c.write_end.new.self
          (media_view it.master it.session it.vault.copies it.returns.made)
          (event.WriteEnd p) (reply_of (λ lsn. answer.Written lsn) r)) (sym w.result-is)
          (ended stored it.log it.txns.table it.pool c.write_end.new.self
          (media_view it.master it.session it.vault.copies it.returns.made) p
          w.in-Ok.lsn c.self.invariant none within
          w.in-Ok.ensures.lsn w.in-Ok.ensures.stored w.in-Ok.ensures.ended of_log)
      | in-Err w ↦
          subst (λ (r : Result Lsn Refusal). Called stored it.log it.log it.txns.table it.pool c.write_end.new.self
          (media_view it.master it.session it.vault.copies it.returns.made)
          (event.WriteEnd p) (reply_of (λ lsn. answer.Written lsn) r)) (sym w.result-is)
          (repeated stored it.log it.txns.table it.pool c.write_end.new.self
          (media_view it.master it.session it.vault.copies it.returns.made)
          p c.self.invariant none within
          w.in-Err.ensures.either w.in-Err.ensures.goes_on of_log)
    ]

pub invariant_of-self : goal.invariant_of-self
invariant_of-self g c = (call g c).kept

pub returns-clause-step : goal.returns-clause-step
returns-clause-step g c =
    subst (λ (v : EngineView g.row.S.Denot g.row.D.Denot). Step v.state (event.WriteEnd c.args.page)
    (reply_of (λ lsn. answer.Written lsn) c.match-write_end.result)
    (engine_view g.S.PageStore.stored c.self.inside.log c.write_end.new.self
    (media_view c.self.inside.master c.self.inside.session c.self.inside.vault.copies c.self.inside.returns.made)).state)
    c.self.view_is (call g c).step

pub returns-clause-store : goal.returns-clause-store
returns-clause-store g c =
    let it = c.self.inside in
    let store = g.S.PageStore in
    let media = media_view it.master it.session it.vault.copies it.returns.made in
    let p = c.args.page in
    let now = engine_view store.stored it.log it.pool media in
    let new = engine_view store.stored it.log c.write_end.new.self media in
    let none : refusal now.state (event.WriteEnd p) ≡ None =
    subst (λ (v : EngineView g.row.S.Denot g.row.D.Denot). refusal v.state (event.WriteEnd p) ≡ None)
    (sym c.self.view_is) c.in_ok-find_writing.ensures.writing in
    let count = c.self.invariant.pool_of_log.pages in
    let below = (write_end_passes now.state p none).within in
    let within : p < length it.pool.states = omega arith in
    rw (← c.self.view_is)
    (elim c.match-write_end.branch [
      | in-Ok w ↦
          rw w.result-is
          (was_asked w.in-Ok.lsn (asks_to_store store.stored store.gave store.wrote store.grew it.log it.pool media new p none
          within w.in-Ok.ensures.wrote) w.in-Ok.ensures.no_failure)
      | in-Err w ↦
          rw w.result-is
          (asked_in_vain (fails_to_store store.stored store.gave store.wrote store.grew it.log it.pool media new p none within
          _ w.in-Err.ensures.failed) w.in-Err.ensures.failure)
    ])
