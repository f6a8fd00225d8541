use Rattle.std.proofs.Common.{ap, ◌∙◌}
use Rattle.manifest.specs.Entries.{Listed, file_of}
use Rattle.manifest.proofs.Public.{noted_known, others_kept}
use Rattle.database_files.proofs.kept_manifest.note_file.Goals as goal

pub returns-in-Ok-clause-there : goal.returns-in-Ok-clause-there
returns-in-Ok-clause-there c =
    ap (λ (it : Listed). file_of c.args.name.now it.entries) c.in-Ok.ensures.ok
    ∙ noted_known (record { name = c.args.name.now; file = c.args.file }) c.args.manifest.now.entries

pub returns-in-Ok-clause-others : goal.returns-in-Ok-clause-others
returns-in-Ok-clause-others c other differs =
    ap (λ (it : Listed). file_of other it.entries) c.in-Ok.ensures.ok
    ∙ others_kept (record { name = c.args.name.now; file = c.args.file }) other c.args.manifest.now.entries differs
