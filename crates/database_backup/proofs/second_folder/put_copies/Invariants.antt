use Rattle.std.proofs.Common.{◌≡◌, take}
use Rattle.saved_files.specs.Folder.{Changes}
use Rattle.database_files.specs.Standing.{AddsCopies}
use Rattle.database_backup.specs.Backups.{NotesCopies}
use Rattle.database_backup.proofs.SecondFolders.{Filling}
use Rattle.database_backup.proofs.second_folder.put_copies.Given as goal

abbrev pub invariant-loop-id : goal.invariant-loop-id
invariant-loop-id g l = record {
  claimed : g.F.Folder.is_claimed l.folder;
  filling : Changes (Filling (g.O.Folder.entries l.from) l.manifest.entries (take l.id-index l.copies))
      (g.F.Folder.entries l.initial.folder) (g.F.Folder.entries l.folder);
  adds : Changes AddsCopies (g.F.Folder.entries l.initial.folder) (g.F.Folder.entries l.folder);
  noted : NotesCopies l.initial.manifest.entries l.manifest.entries;
  database : l.manifest.database ≡ l.initial.manifest.database;
}
