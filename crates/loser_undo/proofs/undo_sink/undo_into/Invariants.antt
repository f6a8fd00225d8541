use Rattle.std.proofs.Common.{◌-◌, [], List}
use Rattle.log_records.specs.declared.limits.TheConstants.{MAX_RECORDS}
use Rattle.log_records.specs.declared.record.Record.{Record}
use Rattle.log_records.specs.Log.{Log}
use Rattle.loser_undo.specs.UndoRecords.{HasYielded}
use Rattle.loser_undo.specs.UndoSink.{MayBeUndone}
use Rattle.loser_undo.proofs.undo_sink.undo_into.Given as goal

-- undo has yielded some records, and the sink has taken them
abbrev pub invariant-loop-next : goal.invariant-loop-next
invariant-loop-next g l =
    let took = g.S.UndoSink.took in
    let start = l.fn.sink in (
    log : Log) → MayBeUndone log l.fn.losers l.fn.count → took start log [] start
    → (behind : List Record) × (HasYielded log behind l.undo × took start log behind l.sink)

abbrev pub decreases-loop-next : goal.decreases-loop-next
decreases-loop-next g l = MAX_RECORDS - l.undo.count
