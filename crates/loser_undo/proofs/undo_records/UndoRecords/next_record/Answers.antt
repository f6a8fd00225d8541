use Rattle.std.proofs.Common.{◌≡◌, ◌∙◌, slice_get, subst, sym, Some, None}
use Rattle.std.specs.Option.{option_and_then, option_map}
use Rattle.log_records.specs.declared.record.Record.TheVariants.{Comp, End}
use Rattle.log_rules.specs.Transactions.{last_of}
use Rattle.txn_table.specs.TxnState.{state_of}
use Rattle.loser_undo.specs.UndoRecords.{UndoView, YieldsNext}
use Rattle.std.proofs.lemmas.Option.{slice_get_within}
use Rattle.loser_undo.proofs.Yields.{few_open, has_room, turn_is, yields_comp, yields_end, yields_none}
use Rattle.loser_undo.proofs.undo_records.UndoRecords.next_record.Goals as goal

pub next_place-requires : goal.next_place-requires
next_place-requires c = few_open c.requires.0 c.requires.1.0 c.args.self.now c.requires.1.1

pub returns-in_err-place : goal.returns-in_err-place
returns-in_err-place c = λ log behind has.
    subst (YieldsNext log behind c.args.self.now) (sym c.from_residual.ensures)
    (yields_none log behind c.args.self.now has c.in_err-place.ensures)

pub compensation_for-requires-clause-place : goal.compensation_for-requires-clause-place
compensation_for-requires-clause-place c =
    let next = c.in_ok-place.ensures in
    slice_get_within c.args.self.now.losers c.in_ok-place.place next.entry next.there

pub compensation_for-requires-clause-few : goal.compensation_for-requires-clause-few
compensation_for-requires-clause-few c = few_open c.requires.0 c.requires.1.0 c.args.self.now c.requires.1.1

pub compensation_for-requires-clause-room : goal.compensation_for-requires-clause-room
compensation_for-requires-clause-room c =
    let next = c.in_ok-place.ensures in
    has_room c.requires.0 c.requires.1.0 c.args.self.now c.requires.1.1 c.in_ok-place.place next.entry next.there

pub end-requires-clause-place : goal.end-requires-clause-place
end-requires-clause-place c =
    let next = c.in_ok-place.ensures in
    slice_get_within c.args.self.now.losers c.in_ok-place.place next.entry next.there

pub end-requires-clause-room : goal.end-requires-clause-room
end-requires-clause-room c =
    let next = c.in_ok-place.ensures in
    has_room c.requires.0 c.requires.1.0 c.args.self.now c.requires.1.1 c.in_ok-place.place next.entry next.there

pub returns-in-Some : goal.returns-in-Some
returns-in-Some c = λ log behind has.
    let next = c.in_ok-place.ensures in
    let place = c.in_ok-place.place in
    let found = subst (λ (v : UndoView). Some c.in_ok-state.state ≡ option_map state_of (slice_get v.losers place))
    c.self.view_is c.in_ok-state.ensures in
    let pending = subst (λ (v : UndoView). Some c.in-Some.change
    ≡ option_and_then (λ e. last_of e.pending) (slice_get v.losers place)) c.self.view_is
    (sym c.in-Some.is ∙ c.last_pending_at.ensures) in
    let turn = turn_is c.args.self.now.losers place next c.in_ok-state.state (Some c.in-Some.change) found pending in
    yields_comp log behind c.args.self.now has place next.entry c.in-Some.change c.compensation_for.result
    c.compensation_for.new.self next.there turn.last turn.turn
    (c.compensation_for.ensures.made ∙ turn.state_is (λ s. Comp (Rattle.log_records.specs.Log.lsn_of c.args.self.now.count)
    s.txn s.last c.in-Some.change.prev c.in-Some.change.page c.in-Some.change.slot
    (Rattle.page_core.specs.Change.undo_of c.in-Some.change.change)))
    (c.compensation_for.ensures.left next.entry)

pub returns-in-None : goal.returns-in-None
returns-in-None c = λ log behind has.
    let next = c.in_ok-place.ensures in
    let place = c.in_ok-place.place in
    let found = subst (λ (v : UndoView). Some c.in_ok-state.state ≡ option_map state_of (slice_get v.losers place))
    c.self.view_is c.in_ok-state.ensures in
    let pending = subst (λ (v : UndoView). None
    ≡ option_and_then (λ e. last_of e.pending) (slice_get v.losers place)) c.self.view_is
    (sym c.in-None.is ∙ c.last_pending_at.ensures) in
    let turn = turn_is c.args.self.now.losers place next c.in_ok-state.state None found pending in
    yields_end log behind c.args.self.now has place next.entry c.end.result c.end.new.self next.there turn.last
    turn.turn
    (c.end.ensures.made ∙ turn.state_is (λ s. End (Rattle.log_records.specs.Log.lsn_of c.args.self.now.count) s.txn
    s.last))
    c.end.ensures.left
