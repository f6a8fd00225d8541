use Rattle.std.proofs.Common.{◌≡◌, ◌++◌, take}
use Rattle.std.specs.List.{filter_map}
use Rattle.page_core.specs.PageCounts.{PageCounts}
use Rattle.log_records.specs.PageCount.{given_by}
use Rattle.log_records.proofs.page_count.note_counts.Given as goal

abbrev pub invariant-loop-record : goal.invariant-loop-record
invariant-loop-record l =
    l.counts ≡ (record {
      first = l.fn.counts.first;
      given = l.fn.counts.given ++ filter_map given_by (take l.record-index l.records);
    })
