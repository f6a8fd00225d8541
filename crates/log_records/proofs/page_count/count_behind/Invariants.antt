use Rattle.std.proofs.Common.{◌≡◌, take}
use Rattle.log_records.specs.PageCount.{count_behind}
use Rattle.log_records.proofs.page_count.count_behind.Given as goal

abbrev pub invariant-loop-record : goal.invariant-loop-record
invariant-loop-record l = l.last ≡ count_behind l.count (take l.record-index l.records)
