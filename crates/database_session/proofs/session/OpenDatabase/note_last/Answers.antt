use Rattle.std.proofs.Common.{ap, ◌∙◌}
use Rattle.std.specs.Prelude.{codes}
use Rattle.manifest.specs.Entries.{Listed, file_of}
use Rattle.database_files.proofs.Public.{others_left, removed_unknown}
use Rattle.database_session.proofs.session.OpenDatabase.note_last.Goals as goal

pub returns-in_default-clause-waits : goal.returns-in_default-clause-waits
returns-in_default-clause-waits g c = λ waits.
    ap (λ (it : Listed). file_of (codes "master") it.entries) c.remove.ensures
    ∙ removed_unknown (codes "master") c.args.manifest.now.entries

pub returns-in_default-clause-others : goal.returns-in_default-clause-others
returns-in_default-clause-others g c = λ name other.
    ap (λ (it : Listed). file_of name it.entries) c.remove.ensures
    ∙ others_left (codes "master") name c.args.manifest.now.entries other
