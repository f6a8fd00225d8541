use Rattle.database_files.proofs.Notes.{is_text}
use Rattle.database_files.proofs.closed_note.note_in.Goals as goal

pub returns-in_default : goal.returns-in_default
returns-in_default c = λ note it. c.in_default.ensures.cases.0 (is_text note c.args.bytes.now it)
