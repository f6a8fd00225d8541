use Rattle.saved_files.specs.Restored.{LeavesVolume, WritesVolumeOf, files_by}
use Rattle.saved_files.proofs.Puts.{unstored_by}
use Rattle.saved_files.proofs.put_restored.put_restored_volume.Goals as goal

pub returns-clause-left : goal.returns-clause-left
returns-clause-left g c =
    let files = files_by (g.N.NamedFiles.bytes c.args.files.now) c.args.names in
    unstored_by c.args.name.now (WritesVolumeOf files) (LeavesVolume files) _ _ _ _ _ c.store_names.result
    c.in_default.ensures.put c.store_names.ensures.same c.store_names.ensures.unstored
