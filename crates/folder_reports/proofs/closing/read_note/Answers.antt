use Rattle.std.proofs.Common.{List, ℕ, subst}
use Rattle.std.specs.Prelude.{codes}
use Rattle.database_files.specs.Closed.{SpellsNote}
use Rattle.database_files.specs.Found.{IsReadOf}
use Rattle.folder_reports.proofs.Files.{found, note_found}
use Rattle.folder_reports.proofs.closing.read_note.Goals as goal

pub returns-in-Ok : goal.returns-in-Ok
returns-in-Ok g c =
    let known = g.F.Reader.Read.remaining c.in-Ok-Some.file in
    let note = c.note_in-note.result in
    let file = rw c.in-Ok-Some.field-0-is at c.in-Ok-Some.ensures in
    found SpellsNote (g.F.DatabaseFiles.entries c.args.folder.now) (codes "closed") known note file
    (note_found known c.in-Ok.bytes.items note c.in-Ok.ensures
    (subst (λ (bytes : List ℕ). IsReadOf SpellsNote bytes note) c.deref.ensures.value c.note_in-note.ensures))
