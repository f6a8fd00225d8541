use Rattle.std.proofs.Common.{◌∙◌}
use Rattle.database_files.specs.Master.{spelled}
use Rattle.database_files.proofs.Public.{all_found, tells_manifest, tells_master}
use Rattle.database_opening.proofs.restarted.find_others.Goals as goal

pub returns-clause-found : goal.returns-clause-found
returns-clause-found g c =
    let entries = g.F.Folder.entries c.args.folder.now in
    let there = c.args.there.now in
    all_found entries there c.in_ok-note.note c.in_ok-manifest.manifest (spelled c.in_ok-master.master)
    c.in_ok-copies.copies.items c.requires c.in_ok-note.ensures
    (c.in_ok-manifest.ensures (tells_manifest entries there c.requires))
    (c.in_ok-master.ensures.found (tells_master entries there c.requires)) c.in_ok-copies.ensures.found
    (c.in_ok-copies.ensures.ids ∙ c.deref.ensures.value)
