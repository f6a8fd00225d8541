use Rattle.std.proofs.Common.{List, ◌≡◌, length, map}
use Rattle.log_records.specs.declared.record.Record.{Record}
use Rattle.copy_audit.specs.Changes.{AreChangesOf}
use Rattle.copy_audit.specs.Trace.{IsTraced}
use Rattle.copy_audit.proofs.ByLsn.{AreLooked}
use Rattle.copy_audit.proofs.by_lsn.reaches.Given as goal

abbrev pub invariant-loop-i : goal.invariant-loop-i
invariant-loop-i l = record {
  count : length l.seen.items ≡ length l.row;
  traced : (rs : List Record) → AreChangesOf rs l.number l.count l.changes → IsTraced rs l.number l.trace;
  looked : (rs : List Record) → AreChangesOf rs l.number l.count l.changes
      → AreLooked rs l.number l.row (map (λ it. it.member) l.due.items) l.i l.seen.items;
}
