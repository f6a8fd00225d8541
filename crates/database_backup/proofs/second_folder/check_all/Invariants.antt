use Rattle.std.proofs.Common.{take}
use Rattle.std.specs.Prelude.{IfSome}
use Rattle.std.specs.List.{All}
use Rattle.saved_files.specs.Saved.{name_of}
use Rattle.saved_files.specs.declared.saved_name.SavedName.TheVariants as saved
use Rattle.database_backup.specs.Backups.{IsCopyOf}
use Rattle.database_backup.proofs.second_folder.check_all.Given as goal

abbrev pub invariant-loop-id : goal.invariant-loop-id
invariant-loop-id g l = IfSome (g.F.Folder.entries l.folder) (λ it.
    All (λ id. IsCopyOf (g.O.Folder.entries l.from) (name_of (saved.Copy id)) (it (name_of (saved.Copy id))))
    (take l.id-index l.copies))
