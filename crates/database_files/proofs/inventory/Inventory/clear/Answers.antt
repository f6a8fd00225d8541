use Rattle.std.proofs.Common.{map, string_bytes, subst}
use Rattle.saved_files.specs.Folder.{Changes}
use Rattle.database_files.specs.Standing.{KeepsAllBut}
use Rattle.database_files.proofs.FolderChanges.{all_removed}
use Rattle.database_files.proofs.Founds.{are_unfinished}
use Rattle.database_files.proofs.inventory.Inventory.clear.Goals as goal

pub returns-clause-kept : goal.returns-clause-kept
returns-clause-kept g c =
    let entries = g.F.Folder.entries in
    all_removed (map string_bytes c.args.self.now.unfinished.items) (entries c.args.folder.now)
    (entries c.remove_all.new.folder) (are_unfinished (entries c.args.folder.now) c.args.self.now c.requires.inventory)
    (subst (λ names. Changes (KeepsAllBut (map string_bytes names)) (entries c.args.folder.now)
    (entries c.remove_all.new.folder)) c.deref.ensures.value c.remove_all.ensures.others)
