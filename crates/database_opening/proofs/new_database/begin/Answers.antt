use Rattle.database_files.proofs.Public.{keeps_log, keeps_more, keeps_volume}
use Rattle.database_opening.proofs.new_database.begin.Goals as goal

pub returns-in_err-log-clause-kept : goal.returns-in_err-log-clause-kept
returns-in_err-log-clause-kept g c =
    keeps_log (g.F.Folder.entries c.args.folder.now) (g.F.Folder.entries c.log_at.new.folder) c.log_at.ensures.others

pub returns-in_err-store-clause-kept : goal.returns-in_err-store-clause-kept
returns-in_err-store-clause-kept g c =
    let entries = g.F.Folder.entries in
    keeps_more (entries c.args.folder.now) (entries c.log_at.new.folder) (entries c.new_volume.new.folder)
    (keeps_log (entries c.args.folder.now) (entries c.log_at.new.folder) c.log_at.ensures.others)
    (keeps_volume (entries c.log_at.new.folder) (entries c.new_volume.new.folder) c.new_volume.ensures.others)

pub returns-clause-kept : goal.returns-clause-kept
returns-clause-kept g c =
    let entries = g.F.Folder.entries in
    keeps_more (entries c.args.folder.now) (entries c.log_at.new.folder) (entries c.new_volume.new.folder)
    (keeps_log (entries c.args.folder.now) (entries c.log_at.new.folder) c.log_at.ensures.others)
    (keeps_volume (entries c.log_at.new.folder) (entries c.new_volume.new.folder) c.new_volume.ensures.others)
