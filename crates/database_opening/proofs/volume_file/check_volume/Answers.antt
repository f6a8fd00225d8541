use Rattle.std.proofs.Common.{ℕ, arith, subst}
use Rattle.std.specs.Prelude.{codes, IfSome}
use Rattle.database_files.specs.DatabaseFolder.{BeginsIn}
use Rattle.database_files.specs.declared.database_folder.Standing.{Standing}
use Rattle.database_opening.proofs.Volumes.{volume_there}
use Rattle.database_opening.proofs.volume_file.check_volume.Goals as goal

pub returns-in-Ok-File : goal.returns-in-Ok-File
returns-in-Ok-File g c =
    let entries = g.F.Folder.entries c.args.folder.now in
    let bytes = c.volume_begins.new.bytes in
    volume_there entries bytes _ (omega arith)
    (subst (λ (it : Standing ℕ). IfSome entries (λ there. BeginsIn it bytes (there (codes "volume")))) c.in-Ok-File.field-0-is
    c.in-Ok-File.ensures) (c.begins_as_volume.ensures c.if-begins_as_volume.true)
