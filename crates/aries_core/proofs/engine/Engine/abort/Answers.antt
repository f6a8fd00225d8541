use Rattle.std.proofs.Common.{◌≡◌, refl, ap, ◌∙◌}
use Rattle.engine_calls.specs.declared.event.Event.TheVariants as event
use Rattle.engine_rules.specs.EngineState.{end}
use Rattle.engine_rules.specs.EngineView.{EngineView}
use Rattle.aries_core.proofs.engine.Engine.abort.Goals as goal

pub append-requires-clause-called : goal.append-requires-clause-called
append-requires-clause-called g c =
    let lsn : c.end-lsn.result ≡ end c.args.self.now.state =
    c.end-lsn.ensures ∙ ap (λ (v : EngineView g.row.S.Denot g.row.D.Denot). end v.state) c.self.view_is in
    let prev = c.in_ok-prev.ensures.last in
    record {
      of_transaction = tt;
      call = event.Abort c.args.txn;
      fits = tt;
      accepted = c.in_ok-prev.ensures.active;
      made
          = rw (lsn, prev) refl;
    }
