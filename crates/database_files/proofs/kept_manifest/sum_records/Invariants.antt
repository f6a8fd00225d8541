use Rattle.std.proofs.Common.{◌++◌, ℕ, List, take}
use Rattle.std.specs.List.{flat_map}
use Rattle.log_records.specs.Record.{record_bytes}
use Rattle.manifest.specs.Sums.{HasSummed}
use Rattle.database_files.proofs.kept_manifest.sum_records.Given as goal

abbrev pub invariant-loop-record : goal.invariant-loop-record
invariant-loop-record l = (before : List ℕ) → HasSummed l.fn.sums before
    → HasSummed l.sums (before ++ flat_map record_bytes (take l.record-index l.records))
