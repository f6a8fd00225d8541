use Rattle.std.proofs.Common.{◌≡◌, length, ap, arith}
use Rattle.log_store.proofs.WrittenLogs.{written_held}
use Rattle.log_store.proofs.stored_log.StoredLog.resume.Goals as goal

pub invariant_of-result : goal.invariant_of-result
invariant_of-result g c =
    let bytes = g.D.LogDevice.bytes in
    let image = c.args.image in
    let pages_is = c.into_parts-pages.ensures.parts.0 in
    let records_are = c.into_parts-pages.ensures.parts.1 in
    let count : c.len.result ≡ length image.records = omega (arith, c.len.ensures, ap length records_are) in
    rw (pages_is, records_are) (
      written_held bytes image c.len.result _ c.args.device c.into_parts-pages.ensures.valid count c.requires,
      c.page_count-count.ensures.count,
    )
