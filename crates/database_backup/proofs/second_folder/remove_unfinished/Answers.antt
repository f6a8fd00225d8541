use Rattle.database_files.proofs.Public.{removed}
use Rattle.database_backup.proofs.second_folder.remove_unfinished.Goals as goal

pub returns-then-is_unfinished_backup-clause-kept : goal.returns-then-is_unfinished_backup-clause-kept
returns-then-is_unfinished_backup-clause-kept g c =
    removed c.args.name.now (g.F.Folder.entries c.args.folder.now) (g.F.Folder.entries c.remove_file.new.folder)
    (c.is_unfinished_backup.ensures c.if-is_unfinished_backup.true) c.remove_file.ensures.others
