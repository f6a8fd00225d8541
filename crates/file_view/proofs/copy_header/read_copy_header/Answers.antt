use Rattle.std.proofs.Common.{arith}
use Rattle.file_view.proofs.CopyHeaders.{of_front, refused_on, too_short}
use Rattle.file_view.proofs.copy_header.read_copy_header.Goals as goal

pub returns-then-bytes-lt-HEADER_BYTES-clause-refused :
    goal.returns-then-bytes-lt-HEADER_BYTES-clause-refused
returns-then-bytes-lt-HEADER_BYTES-clause-refused c =
    too_short c.args.bytes.now (omega (arith, c.if-bytes-lt-HEADER_BYTES.true))

pub returns-in_err-see_header-clause-refused : goal.returns-in_err-see_header-clause-refused
returns-in_err-see_header-clause-refused c =
    refused_on c.from_residual.result c.in_err-see_header.field-0.0 c.args.bytes.now c.from_residual.ensures.1
    (of_front c.args.bytes.now c.in_err-see_header.field-0.0 c.in_err-see_header.ensures.refused)
