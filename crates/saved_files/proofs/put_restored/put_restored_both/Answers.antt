use Rattle.saved_files.specs.Restored.{LeavesLogFirst, WritesLogFirst, files_by}
use Rattle.saved_files.proofs.PutsBoth.{leaves_both_by, of_writing_by, puts_both_by, second_unmade}
use Rattle.saved_files.proofs.put_restored.put_restored_both.Goals as goal

pub returns-in-Err-make_beside-clause-left : goal.returns-in-Err-make_beside-clause-left
returns-in-Err-make_beside-clause-left g c =
    let files = files_by (g.N.NamedFiles.bytes c.args.files.now) c.args.names in
    second_unmade (WritesLogFirst files) (LeavesLogFirst files) c.args.log.now c.args.volume.now _ _
    (g.F.Folder.given_up c.give_up.new.folder) (g.G.Folder.given_up c.make_beside-2.new.folder)
    c.in-Err-make_beside.why _ _ _ _ _ c.in-Ok.ensures.beside c.in-Ok.ensures.made c.give_up.ensures.kept
    c.in-Err-make_beside.ensures.same

pub returns-clause-put : goal.returns-clause-put
returns-clause-put g c =
    let files = files_by (g.N.NamedFiles.bytes c.args.files.now) c.args.names in
    puts_both_by (WritesLogFirst files) c.args.log.now c.args.volume.now _ _ _ _ _ _ _ _ _ _ _ _ _ _
    c.write_both-done.result c.put_both_written.result c.in-Ok.ensures.beside c.in-Ok-make_beside.ensures.beside
    c.finish-2.ensures c.finish-3.ensures c.write_both-done.ensures.written c.in-Ok.ensures.made
    c.in-Ok-make_beside.ensures.made c.put_both_written.ensures.first c.put_both_written.ensures.second
    c.put_both_written.ensures.written

pub returns-clause-left : goal.returns-clause-left
returns-clause-left g c =
    let files = files_by (g.N.NamedFiles.bytes c.args.files.now) c.args.names in
    leaves_both_by (WritesLogFirst files) (LeavesLogFirst files) c.args.log.now c.args.volume.now _ _ _ _ _ _ _ _ _ _
    _ _ _ _ _ _ c.write_both-done.result c.put_both_written.result c.in-Ok.ensures.beside
    c.in-Ok-make_beside.ensures.beside c.finish-2.ensures c.finish-3.ensures c.write_both-done.ensures.written
    c.write_both-done.ensures.left c.put_both_written.ensures.why c.put_both_written.ensures.first_given_up
    c.put_both_written.ensures.second_given_up c.in-Ok.ensures.made c.in-Ok-make_beside.ensures.made
    c.put_both_written.ensures.first_left c.put_both_written.ensures.second_left

pub returns-clause-of_files : goal.returns-clause-of_files
returns-clause-of_files g c =
    let files = files_by (g.N.NamedFiles.bytes c.args.files.now) c.args.names in
    of_writing_by (LeavesLogFirst files) _ _ _ _ c.write_both-done.result c.put_both_written.result
    c.write_both-done.ensures.left c.put_both_written.ensures.why
