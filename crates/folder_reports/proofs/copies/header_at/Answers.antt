use Rattle.std.proofs.Common.{arith}
use Rattle.folder_reports.proofs.Files.{header_in}
use Rattle.folder_reports.proofs.copies.header_at.Goals as goal

pub returns-in-Ok-read_copy_header : goal.returns-in-Ok-read_copy_header
returns-in-Ok-read_copy_header g c =
    header_in (g.F.DatabaseFiles.entries c.args.folder.now) c.args.name.now _ _ c.read_exact.new.buf
    c.in-Ok-read_copy_header.header c.in-Ok.ensures c.in-Ok-read_exact.ensures.bytes (omega arith)
    c.in-Ok-read_copy_header.ensures.found
