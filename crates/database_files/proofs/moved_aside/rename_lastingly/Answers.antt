use Rattle.database_files.proofs.PutAside.{renamed_stored}
use Rattle.database_files.proofs.moved_aside.rename_lastingly.Goals as goal

pub returns-clause-either : goal.returns-clause-either
returns-clause-either g c =
    let entries = g.F.Folder.entries in
    renamed_stored c.args.from.now c.args.to.now (entries c.args.folder.now) (entries c.rename.new.self)
    (entries c.sync_names.new.self) c.in_ok-rename.ensures.renamed c.sync_names.ensures.same
