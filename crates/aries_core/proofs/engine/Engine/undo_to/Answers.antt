use Rattle.std.proofs.Common.{◌≡◌, ◌<◌, sym, ap, subst, ◌∙◌}
use Rattle.std.specs.Prelude.{IfSome, Option, None, Some}
use Rattle.std.specs.Option.{option_map}
use Rattle.log_rules.specs.declared.pending_change.PendingChange.{PendingChange}
use Rattle.log_records.specs.Record.{IsOfTransaction}
use Rattle.engine_calls.specs.declared.event.Event.TheVariants as event
use Rattle.engine_rules.specs.EngineState.{IsFit, comp_record, taken_back}
use Rattle.engine_rules.specs.EngineView.{EngineView}
use Rattle.engine_rules.specs.EngineState.{volume_pages}
use Rattle.engine_rules.specs.Refusal.{refusal}
use Rattle.aries_core.proofs.FetchCalls.{back_passes}
use Rattle.engine_rules.proofs.Public.{needed_within}
use Rattle.aries_core.proofs.engine.Engine.undo_to.Goals as goal

pub append_fetching-requires-clause-called : goal.append_fetching-requires-clause-called
append_fetching-requires-clause-called g c =
    let s = c.args.self.now.state in
    let taken : taken_back s c.args.txn c.args.savepoint ≡ Some c.in-Some.last =
    sym c.in_ok-last.ensures.found ∙ c.in-Some.is in
    record {
      of_transaction = subst IsOfTransaction (sym c.comp.ensures) tt;
      call = event.UndoTo c.args.txn c.args.savepoint;
      fits = tt;
      accepted = back_passes s c.args.txn c.args.savepoint c.in-Some.last c.in_ok-prev.ensures.active
          c.in_ok-last.ensures.known taken c.in_ok-find_frame-in-Some.ensures.free;
      made = ap (option_map (comp_record s c.args.txn)) taken ∙ ap Some (sym c.comp.ensures);
    }

pub append_fetching-requires-clause-within : goal.append_fetching-requires-clause-within
append_fetching-requires-clause-within g c =
    let s = c.args.self.now.state in
    let fit : IsFit s =
    subst (λ (v : EngineView g.row.S.Denot g.row.D.Denot). IsFit v.state) c.self.view_is c.self.invariant.fit in
    let taken : taken_back s c.args.txn c.args.savepoint ≡ Some c.in-Some.last =
    sym c.in_ok-last.ensures.found ∙ c.in-Some.is in
    let none : refusal s (event.UndoTo c.args.txn c.args.savepoint) ≡ None =
    back_passes s c.args.txn c.args.savepoint c.in-Some.last c.in_ok-prev.ensures.active
    c.in_ok-last.ensures.known taken c.in_ok-find_frame-in-Some.ensures.free in
    subst (λ (o : Option PendingChange). IfSome (option_map (λ p. p.page) o) (λ p. p < volume_pages s)) taken
    (needed_within s (event.UndoTo c.args.txn c.args.savepoint) fit none)
