use Rattle.database_opening.proofs.LogThere.{log_there}
use Rattle.database_opening.proofs.restarted.find.Goals as goal

pub returns-in-Ok-clause-there : goal.returns-in-Ok-clause-there
returns-in-Ok-clause-there g c =
    log_there (g.F.Folder.entries c.args.folder.now) g.F.DatabaseFolder.held c.args.log c.in_ok-log.log.bytes.items
    c.requires.there c.in_ok-log.ensures.first c.in_ok-log.ensures.whole
