use Rattle.std.proofs.Common.{refl}
use Rattle.std.specs.Prelude.{codes}
use Rattle.saved_files.specs.Saved.{name_of}
use Rattle.saved_files.specs.declared.saved_name.SavedName.TheVariants as saved
use Rattle.database_files.specs.declared.evidence.Witness.TheVariants as witness
use Rattle.database_files.proofs.Public.{puts_one}
use Rattle.database_opening.proofs.made_ready.move_witness_aside.Goals as goal

pub returns-in-Manifest-clause-stays : goal.returns-in-Manifest-clause-stays
returns-in-Manifest-clause-stays g c =
    let entries = g.F.Folder.entries in
    puts_one (codes "manifest") (entries c.args.folder.now) (entries c.move_manifest_aside.new.folder)
    (witness.Manifest, refl) c.move_manifest_aside.ensures.either

pub returns-in-Master-clause-stays : goal.returns-in-Master-clause-stays
returns-in-Master-clause-stays g c =
    let entries = g.F.Folder.entries in
    puts_one (name_of saved.Master) (entries c.args.folder.now) (entries c.move_master_aside.new.folder)
    (witness.Master, refl) c.move_master_aside.ensures.either

pub returns-in-Ok-clause-stays : goal.returns-in-Ok-clause-stays
returns-in-Ok-clause-stays g c =
    let entries = g.F.Folder.entries in
    puts_one (name_of (saved.Copy c.in-Begin.id)) (entries c.args.folder.now) (entries c.move_copy_aside.new.folder)
    (witness.Begin c.in-Begin.id, refl) c.move_copy_aside.ensures.either

pub returns-in-Err-clause-stays : goal.returns-in-Err-clause-stays
returns-in-Err-clause-stays g c =
    let entries = g.F.Folder.entries in
    puts_one (name_of (saved.Copy c.in-Begin.id)) (entries c.args.folder.now) (entries c.move_copy_aside.new.folder)
    (witness.Begin c.in-Begin.id, refl) c.move_copy_aside.ensures.either
