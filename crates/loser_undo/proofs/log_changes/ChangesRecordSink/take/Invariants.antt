use Rattle.std.proofs.Common.{◌≡◌, take}
use Rattle.log_records.specs.Log.{IsLog, Log, with_next}
use Rattle.page_redo.specs.Placed.{placed_in}
use Rattle.loser_undo.proofs.log_changes.ChangesRecordSink.take.Given as goal

abbrev pub invariant-loop-record : goal.invariant-loop-record
invariant-loop-record l = (log : Log) → l.fn.self.list.items ≡ placed_in log.records → IsLog (with_next log l.next)
    → l.self.list.items ≡ placed_in (with_next log (take l.record-index l.next)).records
