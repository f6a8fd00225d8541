use Rattle.saved_files.specs.Folder.{Changes}
use Rattle.database_files.specs.Standing.{KeepsFinished}
use Rattle.database_backup.proofs.second_folder.clear.Given as goal

abbrev pub invariant-loop-name : goal.invariant-loop-name
invariant-loop-name g l = g.F.Folder.is_claimed l.folder
    × Changes KeepsFinished (g.F.Folder.entries l.initial.folder) (g.F.Folder.entries l.folder)
