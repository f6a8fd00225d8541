use Rattle.std.proofs.Common.{◌≡◌, ◌<◌, Bool, true, false, refl, sym, ap, subst, ◌∙◌}
use Rattle.std.specs.Prelude.{IfSome, Option, None, Some, if◌then◌else◌}
use Rattle.std.specs.Option.{option_map}
use Rattle.log_records.specs.Record.{IsOfTransaction}
use Rattle.log_rules.specs.declared.pending_change.PendingChange.{PendingChange}
use Rattle.log_rules.specs.Transactions.{is_open, last_of, pending}
use Rattle.engine_calls.specs.declared.event.Event.TheVariants as event
use Rattle.engine_rules.specs.EngineState.{IsFit, end}
use Rattle.engine_rules.specs.EngineView.{EngineView}
use Rattle.engine_rules.specs.EngineState.{volume_pages}
use Rattle.engine_rules.specs.Refusal.{refusal}
use Rattle.engine_rules.proofs.Public.{needed_within}
use Rattle.aries_core.proofs.engine.Engine.undo_step.Goals as goal

-- what an open transaction has to take back
of_open : (here : Bool) (found : Option PendingChange) (last : Option PendingChange)
    → found ≡ (if here then last else None) → here ≡ true → last ≡ found
of_open true found last is still = sym is
of_open false found last is still = cc

pub append_fetching-requires-clause-called : goal.append_fetching-requires-clause-called
append_fetching-requires-clause-called g c =
    let found : c.last_pending.result ≡ (if is_open c.args.self.now.state.log c.args.txn
    then last_of (pending c.args.self.now.state.log c.args.txn) else None) =
    c.last_pending.ensures _ c.self.invariant.table_of_log
    ∙ ap (λ (v : EngineView g.row.S.Denot g.row.D.Denot). if is_open v.state.log c.args.txn then last_of
    (pending v.state.log c.args.txn) else None) c.self.view_is in
    let last = of_open _ _ _ found c.in_ok-prev.ensures.still_open ∙ c.in-Some.is in
    record {
      of_transaction = subst IsOfTransaction (sym c.comp.ensures) tt;
      call = event.UndoStep c.args.txn;
      fits = tt;
      accepted = rw (c.in_ok-prev.ensures.rolling, last) c.in_ok-find_frame-in-Some.ensures.free;
      made = rw last (ap Some (sym c.comp.ensures));
    }

pub append_fetching-requires-clause-within : goal.append_fetching-requires-clause-within
append_fetching-requires-clause-within g c =
    let s = c.args.self.now.state in
    let fit : IsFit s =
    subst (λ (v : EngineView g.row.S.Denot g.row.D.Denot). IsFit v.state) c.self.view_is c.self.invariant.fit in
    let found : c.last_pending.result ≡ (if is_open s.log c.args.txn then last_of (pending s.log c.args.txn) else None) =
    c.last_pending.ensures _ c.self.invariant.table_of_log
    ∙ ap (λ (v : EngineView g.row.S.Denot g.row.D.Denot). if is_open v.state.log c.args.txn then last_of
    (pending v.state.log c.args.txn) else None) c.self.view_is in
    let last = of_open _ _ _ found c.in_ok-prev.ensures.still_open ∙ c.in-Some.is in
    let none : refusal s (event.UndoStep c.args.txn) ≡ None =
    rw (c.in_ok-prev.ensures.rolling, last) c.in_ok-find_frame-in-Some.ensures.free in
    subst (λ (o : Option PendingChange). IfSome (option_map (λ p. p.page) o) (λ p. p < volume_pages s)) last
    (needed_within s (event.UndoStep c.args.txn) fit none)

pub append-requires-clause-called : goal.append-requires-clause-called
append-requires-clause-called g c =
    let lsn : c.end-lsn.result ≡ end c.args.self.now.state =
    c.end-lsn.ensures ∙ ap (λ (v : EngineView g.row.S.Denot g.row.D.Denot). end v.state) c.self.view_is in
    let prev = c.in_ok-prev.ensures.last in
    let found : c.last_pending.result ≡ (if is_open c.args.self.now.state.log c.args.txn
    then last_of (pending c.args.self.now.state.log c.args.txn) else None) =
    c.last_pending.ensures _ c.self.invariant.table_of_log
    ∙ ap (λ (v : EngineView g.row.S.Denot g.row.D.Denot). if is_open v.state.log c.args.txn then last_of
    (pending v.state.log c.args.txn) else None) c.self.view_is in
    let last = of_open _ _ _ found c.in_ok-prev.ensures.still_open ∙ c.in-None.is in
    record {
      of_transaction = tt;
      call = event.UndoStep c.args.txn;
      fits = tt;
      accepted = rw (c.in_ok-prev.ensures.rolling, last) refl;
      made = rw (lsn, prev, last) refl;
    }
