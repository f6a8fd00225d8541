use Rattle.std.proofs.Common.{subst}
use Rattle.saved_files.specs.Saved.{name_of}
use Rattle.saved_files.specs.declared.saved_name.SavedName.TheVariants as saved
use Rattle.database_files.specs.DatabaseFolder.{Reads}
use Rattle.database_files.proofs.Public.{adds_one}
use Rattle.database_backup.proofs.second_folder.put_missing.Goals as goal

pub returns-in_ok-found-in-None-clause-others : goal.returns-in_ok-found-in-None-clause-others
returns-in_ok-found-in-None-clause-others g c =
    let old = g.F.Folder.entries c.args.folder.now in
    adds_one c.args.id old (g.F.Folder.entries c.put.new.folder)
    (subst (λ it. Reads it (λ bytes. bytes.items) old (name_of (saved.Copy c.args.id))) c.in-None.is
    c.in_ok-there.ensures) c.put.ensures.others
