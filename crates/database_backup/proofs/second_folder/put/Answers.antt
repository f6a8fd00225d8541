use Rattle.std.proofs.Common.{subst}
use Rattle.std.specs.Prelude.{OnErr}
use Rattle.std.specs.Io.KnownBytes.{Appends}
use Rattle.saved_files.specs.Folder.{Changes, PutsOrKeeps}
use Rattle.saved_files.specs.PutFault.{bytes_by}
use Rattle.saved_files.specs.Saved.{name_of}
use Rattle.database_files.proofs.Public.{kept_left, left_either}
use Rattle.database_backup.proofs.second_folder.put.Goals as goal

pub returns-in-Err-Unmade-clause-others : goal.returns-in-Err-Unmade-clause-others
returns-in-Err-Unmade-clause-others g c =
    let name = name_of c.args.name in
    let fits = bytes_by (λ old new. Appends old new c.args.bytes.now) in
    let a = g.F.Folder.entries c.args.folder.now in
    let b = g.F.Folder.entries c.place.new.folder in
    kept_left name fits a b
    (subst (λ r. OnErr r (Changes (PutsOrKeeps name fits) a b)) c.in-Err-Unmade.is c.place.ensures.left)

pub returns-in-Err-Unmade-clause-either : goal.returns-in-Err-Unmade-clause-either
returns-in-Err-Unmade-clause-either g c =
    let name = name_of c.args.name in
    let fits = bytes_by (λ old new. Appends old new c.args.bytes.now) in
    let a = g.F.Folder.entries c.args.folder.now in
    let b = g.F.Folder.entries c.place.new.folder in
    left_either name fits a b
    (subst (λ r. OnErr r (Changes (PutsOrKeeps name fits) a b)) c.in-Err-Unmade.is c.place.ensures.left)
