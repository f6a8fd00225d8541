use Rattle.std.proofs.Common.{ℕ, ◌≡◌, ◌+◌, ◌<◌, length, slice_index_or, take}
use Rattle.log_records.specs.PageCount.{count_behind}
use Rattle.settlement.proofs.counted_log.CountedLog.new.Given as goal

-- the counts behind the records so far
abbrev pub invariant-loop-record : goal.invariant-loop-record
invariant-loop-record l = record {
  count : l.count ≡ count_behind l.first (take l.record-index l.records);
  each : length l.behind.items ≡ l.record-index;
  counted : (i : ℕ) → i < l.record-index
      → slice_index_or l.behind.items i 0 ≡ count_behind l.first (take (i + 1) l.records);
}
