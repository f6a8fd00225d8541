use Rattle.std.proofs.Common.{◌≡◌}
use Rattle.saved_files.specs.Restored.{LeavesLog, WritesLog, files_by}
use Rattle.saved_files.proofs.Puts.{left_by, of_source_by, put_by, was_made_by}
use Rattle.saved_files.proofs.put_restored.put_log.Goals as goal

pub returns-clause-put : goal.returns-clause-put
returns-clause-put g c =
    let files = files_by (g.N.NamedFiles.bytes c.args.files.now) c.args.names in
    let before = g.V.Write.contents c.args.volume.now in
    let after = g.V.Write.contents c.write_both-done.new.volume in
    put_by c.args.name.now _ (WritesLog files before after) _ _ _ _ _ _ c.write_both-done.result c.put_written.result
    c.in-Ok.ensures.beside c.write_both-done.ensures.written c.finish.ensures c.in-Ok.ensures.made
    c.put_written.ensures.placed c.put_written.ensures.written

pub returns-clause-left : goal.returns-clause-left
returns-clause-left g c =
    let files = files_by (g.N.NamedFiles.bytes c.args.files.now) c.args.names in
    let before = g.V.Write.contents c.args.volume.now in
    let after = g.V.Write.contents c.write_both-done.new.volume in
    left_by c.args.name.now _ (WritesLog files before after) (LeavesLog files before after) _ _ _
    (g.F.Folder.given_up c.args.folder.now) _ _ _ _ c.write_both-done.result c.put_written.result
    c.in-Ok.ensures.beside c.write_both-done.ensures.written c.write_both-done.ensures.left
    c.finish.ensures c.in-Ok.ensures.made c.put_written.ensures.given_up c.put_written.ensures.why
    c.put_written.ensures.left

pub returns-clause-of_files : goal.returns-clause-of_files
returns-clause-of_files g c =
    let files = files_by (g.N.NamedFiles.bytes c.args.files.now) c.args.names in
    let before = g.V.Write.contents c.args.volume.now in
    let after = g.V.Write.contents c.write_both-done.new.volume in
    of_source_by (LeavesLog files before after) _ _ c.write_both-done.result c.put_written.result
    c.write_both-done.ensures.left c.put_written.ensures.why

pub returns-clause-untouched : goal.returns-clause-untouched
returns-clause-untouched g c =
    was_made_by (g.V.Write.contents c.write_both-done.new.volume ≡ g.V.Write.contents c.args.volume.now)
    c.write_both-done.result c.put_written.result c.put_written.ensures.why
