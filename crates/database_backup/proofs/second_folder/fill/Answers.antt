use Rattle.std.specs.Prelude.{codes}
use Rattle.database_files.proofs.Public.{kept_left, kept_put}
use Rattle.database_backup.proofs.SecondFolders.{is_backup, last_left, last_none, last_put}
use Rattle.database_backup.proofs.SecondFolders.{manifest_older}
use Rattle.database_backup.proofs.second_folder.fill.Goals as goal

pub returns-in_err-put_files-clause-last : goal.returns-in_err-put_files-clause-last
returns-in_err-put_files-clause-last g c =
    last_none (g.O.Folder.entries c.args.from.now) c.args.copies.now c.args.manifest.database
    (g.F.Folder.entries c.args.folder.now) (g.F.Folder.entries c.put_files.new.folder) c.put_files.ensures.others

pub returns-in-Ok-clause-put : goal.returns-in-Ok-clause-put
returns-in-Ok-clause-put g c =
    is_backup (g.O.Folder.entries c.args.from.now) c.args.copies.now c.args.manifest.database
    c.put_files.new.manifest (g.F.Folder.entries c.args.folder.now) (g.F.Folder.entries c.put_files.new.folder)
    (g.F.Folder.entries c.put_text.new.folder) c.in_ok-put_files.ensures.database c.in_ok-put_files.ensures.put
    c.in-Ok.ensures.changed

pub returns-in-Ok-clause-last : goal.returns-in-Ok-clause-last
returns-in-Ok-clause-last g c =
    last_put (g.O.Folder.entries c.args.from.now) c.args.copies.now c.args.manifest.database
    (g.F.Folder.entries c.args.folder.now) (g.F.Folder.entries c.put_text.new.folder) (returns-in-Ok-clause-put g c)

pub returns-clause-last : goal.returns-clause-last
returns-clause-last g c =
    last_left (g.O.Folder.entries c.args.from.now) c.args.copies.now c.args.manifest.database
    c.put_files.new.manifest (g.F.Folder.entries c.args.folder.now) (g.F.Folder.entries c.put_files.new.folder)
    (g.F.Folder.entries c.put_text.new.folder) c.in_ok-put_files.ensures.database c.in_ok-put_files.ensures.put
    c.put_files.ensures.others c.in-Err.ensures.left

pub returns-in-Ok-clause-older : goal.returns-in-Ok-clause-older
returns-in-Ok-clause-older g c =
    let mid = g.F.Folder.entries c.put_files.new.folder in
    let new = g.F.Folder.entries c.put_text.new.folder in
    manifest_older (g.O.Folder.entries c.args.from.now) (g.F.Folder.entries c.args.folder.now) mid new
    c.put_files.ensures.older (kept_put (codes "manifest") _ mid new c.in-Ok.ensures.changed)

pub returns-clause-older : goal.returns-clause-older
returns-clause-older g c =
    let mid = g.F.Folder.entries c.put_files.new.folder in
    let new = g.F.Folder.entries c.put_text.new.folder in
    manifest_older (g.O.Folder.entries c.args.from.now) (g.F.Folder.entries c.args.folder.now) mid new
    c.put_files.ensures.older (kept_left (codes "manifest") _ mid new c.in-Err.ensures.left)
