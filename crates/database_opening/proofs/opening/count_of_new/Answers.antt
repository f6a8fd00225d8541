use Rattle.database_files.proofs.Public.{no_orphan}
use Rattle.database_opening.proofs.opening.count_of_new.Goals as goal

pub returns-clause-files : goal.returns-clause-files
returns-clause-files g c =
    let none = c.orphan.ensures in
    no_orphan (g.F.Folder.entries c.args.folder.now) c.args.there.now c.requires (none.copies c.in_default.is)
    (none.master c.in_default.is) (none.closed c.in_default.is) (none.volume c.in_default.is)
