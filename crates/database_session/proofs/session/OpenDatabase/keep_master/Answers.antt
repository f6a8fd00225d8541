use Rattle.database_files.proofs.Public.{puts_aside}
use Rattle.database_session.proofs.session.OpenDatabase.keep_master.Goals as goal

pub returns-in-Ok-clause-kept : goal.returns-in-Ok-clause-kept
returns-in-Ok-clause-kept g c =
    puts_aside c.put_master.result _ _ _ (g.F.Folder.entries c.args.self.now.folder)
    (g.F.Folder.entries c.clear_master.new.self.folder) (g.F.Folder.entries c.put_master.new.self.folder)
    c.in-Ok.ensures.cleared c.in-Ok.ensures.kept c.put_master.ensures.kept
