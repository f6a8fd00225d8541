use Rattle.std.proofs.Common.{◌≡◌, refl, ap, arith, ◌∙◌}
use Rattle.engine_calls.specs.declared.event.Event.TheVariants as event
use Rattle.log_records.specs.declared.record.Record.{Record}
use Rattle.engine_rules.specs.EngineState.{EngineState, with_appended, end}
use Rattle.engine_rules.specs.EngineView.{EngineView}
use Rattle.engine_calls.specs.declared.refusal.Refusal.TheVariants.{CommitUnsure}
use Rattle.aries_core.proofs.Uses.{force_failed, was_forced}
use Rattle.aries_core.proofs.engine.Engine.commit.Goals as goal

pub append-requires-clause-called : goal.append-requires-clause-called
append-requires-clause-called g c =
    let lsn : c.end-lsn.result ≡ end c.args.self.now.state =
    c.end-lsn.ensures ∙ ap (λ (v : EngineView g.row.S.Denot g.row.D.Denot). end v.state) c.self.view_is in
    let prev = c.in_ok-prev.ensures.last in
    record {
      of_transaction = tt;
      call = event.Commit c.args.txn;
      fits = tt;
      accepted = c.in_ok-prev.ensures.active;
      made = rw (lsn, prev) refl;
    }

-- the Commit is appended in memory, so the forced end and the device are as before
same_end : {S D : Type 0} (old mid : EngineView S D) (r : Record) → mid.state ≡ with_appended old.state r
    → mid.state.forced_end ≡ old.state.forced_end
same_end old mid r is = ap (λ (s : EngineState). s.forced_end) is

pub returns-in-Ok-clause-device : goal.returns-in-Ok-clause-device
returns-in-Ok-clause-device g c =
    let end = same_end c.args.self.now c.append.new.self _ c.in_ok-append.ensures.ok in
    was_forced c.end-lsn.result (rw (end, c.append.ensures.device) at c.in-Ok.ensures.called)
    (c.in-Ok.ensures.no_failure ∙ ap g.D.LogDevice.failures c.append.ensures.device)
    (c.force_log.ensures.same_bound ∙ ap g.D.LogDevice.fails_from c.append.ensures.device)

pub returns-in-Err-clause-device : goal.returns-in-Err-clause-device
returns-in-Err-clause-device g c =
    let end = same_end c.args.self.now c.append.new.self _ c.in_ok-append.ensures.ok in
    force_failed (CommitUnsure c.end-lsn.result) tt (rw (end, c.append.ensures.device) at c.in-Err.ensures.last_call)
    (omega (arith, c.in-Err.ensures.cause, ap g.D.LogDevice.failures c.append.ensures.device))
    (c.force_log.ensures.same_bound ∙ ap g.D.LogDevice.fails_from c.append.ensures.device)
    (omega (arith, c.in-Err.ensures.past_bound, ap g.D.LogDevice.fails_from c.append.ensures.device))
