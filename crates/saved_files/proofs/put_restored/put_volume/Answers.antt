use Rattle.saved_files.specs.Restored.{LeavesVolume, WritesVolumeOf, files_by}
use Rattle.saved_files.proofs.Puts.{left_by, of_source_by, put_by}
use Rattle.saved_files.proofs.put_restored.put_volume.Goals as goal

pub returns-clause-put : goal.returns-clause-put
returns-clause-put g c =
    let files = files_by (g.N.NamedFiles.bytes c.args.files.now) c.args.names in
    put_by c.args.name.now _ (WritesVolumeOf files) _ _ _ _ _ _ c.restore_volume-done.result c.put_written.result
    c.in-Ok.ensures.beside c.restore_volume-done.ensures.ok c.finish.ensures c.in-Ok.ensures.made
    c.put_written.ensures.placed c.put_written.ensures.written

pub returns-clause-left : goal.returns-clause-left
returns-clause-left g c =
    let files = files_by (g.N.NamedFiles.bytes c.args.files.now) c.args.names in
    left_by c.args.name.now _ (WritesVolumeOf files) (LeavesVolume files) _ _ _
    (g.F.Folder.given_up c.args.folder.now) _ _ _ _ c.restore_volume-done.result c.put_written.result
    c.in-Ok.ensures.beside c.restore_volume-done.ensures.ok c.restore_volume-done.ensures.err c.finish.ensures
    c.in-Ok.ensures.made c.put_written.ensures.given_up c.put_written.ensures.why c.put_written.ensures.left

pub returns-clause-of_files : goal.returns-clause-of_files
returns-clause-of_files g c =
    let files = files_by (g.N.NamedFiles.bytes c.args.files.now) c.args.names in
    of_source_by (LeavesVolume files) _ _ c.restore_volume-done.result c.put_written.result
    c.restore_volume-done.ensures.err c.put_written.ensures.why
