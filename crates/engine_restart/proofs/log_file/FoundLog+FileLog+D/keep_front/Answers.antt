use Rattle.std.proofs.Common.{◌≡◌, ◌≤◌, length, take, arith, ap, ◌∙◌}
use Rattle.std.proofs.lemmas.List.{length-take}
use Rattle.log_records.specs.Log.{Log, log_bytes, lsn_of}
use Rattle.file_devices.specs.FileLog.{bytes_of}
use Rattle.engine_restart.proofs.LogFiles.{both_ok, front_there, has_alone}
use Rattle.engine_restart.proofs.log_file.FoundLog+FileLog+D.keep_front.Goals as goal

pub slice_bounds-keep-end : goal.slice_bounds-keep-end
slice_bounds-keep-end g c =
    let found = c.args.self.now in
    let there : lsn_of (length found.front.log.records) ≤ length found.bytes.items =
    front_there found.front.log found.bytes.items found.spelled in
    omega (
      arith,
      there,
      c.end-2.view_is ∙ (c.end.ensures ∙ ap (λ (log : Log). lsn_of (length log.records)) c.log.ensures.log),
      length-take c.end-2.inside.0 c.deref.result.now,
      ap length c.deref.ensures.value,
    )

pub returns-clause-lasting : goal.returns-clause-lasting
returns-clause-lasting g c =
    let found = c.args.self.now in
    let bytes = c.deref.result.now in
    let front = take c.end-2.inside.0 bytes in
    let is : front ≡ log_bytes found.front.log =
    ap (λ end. take end bytes) (c.end-2.view_is ∙ (c.end.ensures ∙ ap (λ (log : Log). lsn_of (length log.records)) c.log.ensures.log))
    ∙ ap (take (lsn_of (length found.front.log.records))) c.deref.ensures.value
    ∙ found.spelled in
    both_ok c.keep.result _ _ _
    (λ has lasts. has_alone bytes_of (λ it. it.end) found.front.log
    c.keep.new.self front has lasts is)
    c.keep.ensures.bytes c.keep.ensures.lasts
