use Rattle.std.proofs.Common.{refl, arith}
use Rattle.page_core.proofs.Public.{of_input}
use Rattle.copy_vault.specs.declared.archive_fault.ArchiveFault.TheVariants as archive
use Rattle.copy_vault.specs.ArchiveFault.{HasFault, SpellsHeader}
use Rattle.copy_vault.proofs.ArchiveReads.{refuses_header}
use Rattle.copy_vault.proofs.archive_cursor.ArchiveCursor.open.Goals as goal

pub returns-in_default-decode_header-clause-err : goal.returns-in_default-decode_header-clause-err
returns-in_default-decode_header-clause-err g c =
    let bytes = c.fill.new.buffer in
    let enough = c.if-filled-lt-HEADER_BYTES.false in
    let none : ¬ SpellsHeader bytes = λ spells.
    cc (c.in_default-decode_header.ensures.only spells.header spells.valid spells.spelled) in (
      refl,
      of_input _ _ bytes (λ bs. HasFault bs (archive.BadArchive 0)) (c.in-Ok.ensures.whole (omega (arith, c.in-Ok.ensures.within)))
          (λ rest end. refuses_header bytes rest (omega arith) none),
    )
