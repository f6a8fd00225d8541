use Rattle.std.proofs.Common.{◌++◌, List, subst, take}
use Rattle.std.specs.List.{flat_map}
use Rattle.std.proofs.lemmas.List.{take_all}
use Rattle.log_records.specs.Record.{record_bytes}
use Rattle.log_records.specs.declared.record.Record.{Record}
use Rattle.manifest.specs.Sums.{HasSummed}
use Rattle.database_files.proofs.SummedLog.{record_more}
use Rattle.database_files.proofs.kept_manifest.sum_records.Goals as goal

pub loop-record-preserved : goal.loop-record-preserved
loop-record-preserved c before summed =
    let records = c.args.records.now in
    let i = c.loop-record.record-index in
    subst (HasSummed c.update.new.self)
    (record_more before records i c.record-item.result _ c.loop-record-test.true c.record-item.is c.encode.ensures)
    (c.update.ensures (before ++ flat_map record_bytes (take i records)) (c.loop-record.invariant before summed))

pub returns : goal.returns
returns c before summed =
    subst (λ (rs : List Record). HasSummed c.loop-record.sums (before ++ flat_map record_bytes rs))
    (take_all c.loop-record.record-index c.args.records.now c.loop-record-test.false)
    (c.loop-record.invariant before summed)
