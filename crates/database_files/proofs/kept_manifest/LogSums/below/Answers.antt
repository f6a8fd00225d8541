use Rattle.std.proofs.Common.{◌≡◌, ◌++◌, ◌-◌, ◌/◌, ℕ, List, ap, drop, subst, sym, take, ◌∙◌}
use Rattle.std.specs.List.{flat_map}
use Rattle.log_records.specs.Log.{header_bytes}
use Rattle.log_records.specs.Record.{record_bytes}
use Rattle.log_records.specs.declared.record.Record.{Record}
use Rattle.manifest.specs.Sums.{HasSummed}
use Rattle.database_files.proofs.SummedLog.{summed_more}
use Rattle.database_files.specs.Kept.{bytes_below, count_below}
use Rattle.database_files.proofs.kept_manifest.LogSums.below.Goals as goal

pub returns-clause-summed : goal.returns-clause-summed
returns-clause-summed c log same summed =
    let first = c.args.self.now.records in
    let last = c.saturating_sub-count.result in
    let before = header_bytes log.pages ++ flat_map record_bytes (take first log.records) in
    let part : c.in_ok-part.part.now ≡ take (last - first) (drop first log.records) =
    c.in_ok-part.ensures.lookup.0.2 ∙ ap (λ (rs : List Record). take (last - first) (drop first rs)) (sym same) in
    summed_more c.sum_records.new.sums log.pages first last log.records c.in_ok-part.ensures.lookup.0.0
    (subst (λ (rs : List Record). HasSummed c.sum_records.new.sums (before ++ flat_map record_bytes rs)) part
    (c.sum_records.ensures before summed))

pub returns-clause-names : goal.returns-clause-names
returns-clause-names c log same summed =
    let count : c.saturating_sub-count.result ≡ count_below c.args.end =
    c.saturating_sub-count.ensures ∙ ap (λ (n : ℕ). n / 64 - 1) c.end.view_is in
    c.now-bytes.ensures (bytes_below c.args.end log)
    (subst (λ (n : ℕ). HasSummed c.sum_records.new.sums
    (header_bytes log.pages ++ flat_map record_bytes (take n log.records))) count
    (returns-clause-summed c log same summed))
