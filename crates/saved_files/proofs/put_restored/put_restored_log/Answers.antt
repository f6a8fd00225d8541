use Rattle.std.proofs.Common.{◌≡◌}
use Rattle.saved_files.specs.Restored.{LeavesLog, WritesLog, files_by}
use Rattle.saved_files.proofs.Puts.{unstored_by, was_placed_by}
use Rattle.saved_files.proofs.put_restored.put_restored_log.Goals as goal

pub returns-clause-left : goal.returns-clause-left
returns-clause-left g c =
    let files = files_by (g.N.NamedFiles.bytes c.args.files.now) c.args.names in
    let before = g.V.Write.contents c.args.volume.now in
    let after = g.V.Write.contents c.put_log.new.volume in
    unstored_by c.args.name.now (WritesLog files before after) (LeavesLog files before after) _ _ _ _ _
    c.store_names.result c.in_default.ensures.put c.store_names.ensures.same c.store_names.ensures.unstored

pub returns-clause-untouched : goal.returns-clause-untouched
returns-clause-untouched g c =
    was_placed_by (g.V.Write.contents c.put_log.new.volume ≡ g.V.Write.contents c.args.volume.now)
    c.store_names.result c.store_names.ensures.unstored
