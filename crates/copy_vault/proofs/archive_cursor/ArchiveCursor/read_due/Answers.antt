use Rattle.std.proofs.Common.{ap, arith}
use Rattle.std.proofs.lemmas.Result.{err_from_is_err_and}
use Rattle.copy_vault.specs.declared.header.ArchiveHeader.{ArchiveHeader}
use Rattle.copy_vault.proofs.ArchiveSteps.{no_end_empty}
use Rattle.copy_vault.proofs.archive_cursor.ArchiveCursor.read_due.Goals as goal

pub returns-in_err-see_end-clause-err : goal.returns-in_err-see_end-clause-err
returns-in_err-see_end-clause-err g c =
    let p = err_from_is_err_and c.from_residual.result c.from_residual.ensures.1 in
    rw (p.1, p.2) (λ h input copy read.
    let due = c.if-self-next.false in
    let none = c.if-self-eq0.true in
    no_end_empty c.args.end c.args.next h input _ _ c.args.self.now copy c.in_err-see_end.field-0.0 read (omega arith)
    (omega (arith, ap (λ (k : ArchiveHeader). k.taken) read.header)) c.in_err-see_end.ensures.err)
