use Rattle.std.proofs.Common.{ap}
use Rattle.database_files.proofs.Public.{cleared_by}
use Rattle.database_session.proofs.session.OpenDatabase.clear_master.Goals as goal

pub returns-in-Ok-clause-cleared : goal.returns-in-Ok-clause-cleared
returns-in-Ok-clause-cleared g c = λ wrong.
    cleared_by _ (g.F.Folder.entries c.args.self.now.folder) (g.F.Folder.entries c.move_master_aside.new.folder) _ _
    (ap g.F.Folder.entries) c.in-Ok.ensures.freed
