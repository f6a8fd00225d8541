use Rattle.std.proofs.Common.{ℕ, arith, subst}
use Rattle.std.specs.Prelude.{codes, IfSome}
use Rattle.database_files.specs.Closed.{SpellsNote}
use Rattle.database_files.proofs.Founds.{first_found}
use Rattle.database_files.proofs.Notes.{is_few}
use Rattle.database_files.specs.DatabaseFolder.{BeginsIn}
use Rattle.database_files.specs.declared.database_folder.Standing.{Standing}
use Rattle.database_files.proofs.closed_note.read_note.Goals as goal

pub returns-in-Ok-File : goal.returns-in-Ok-File
returns-in-Ok-File g c =
    let entries = g.F.Folder.entries c.args.folder.now in
    first_found SpellsNote 32 entries (codes "closed") c.read_first.new.bytes
    c.first_of.result.now c.in-Ok-File.len c.note_in.result is_few (omega arith) c.first_of.ensures (subst (λ (it : Standing ℕ). IfSome entries (λ there. BeginsIn it c.read_first.new.bytes (there (codes "closed")))) c.in-Ok-File.field-0-is
    c.in-Ok-File.ensures)
    c.note_in.ensures
