use Rattle.std.proofs.Common.{subst, sym}
use Rattle.saved_files.specs.Saved.{name_of}
use Rattle.saved_files.specs.declared.saved_name.SavedName.TheVariants as saved
use Rattle.database_files.specs.DatabaseFolder.{HasBytes}
use Rattle.database_files.proofs.Public.{on_ok_all}
use Rattle.database_backup.proofs.SecondFolders.{all_put, copies_older, log_older, master_older}
use Rattle.database_backup.proofs.second_folder.put_files.Goals as goal

pub returns-clause-put : goal.returns-clause-put
returns-clause-put g c =
    let first = g.O.Folder.entries c.args.from.now in
    let entries = g.F.Folder.entries in
    let master = c.deref.result.now in
    let read : HasBytes first (name_of saved.Master) master =
    subst (HasBytes first (name_of saved.Master)) (sym c.deref.ensures.value) c.in_ok-master.ensures in
    on_ok_all c.put-2.result (λ put noted named.
    all_put first c.args.log.now c.args.copies.now master c.put.new.manifest.entries
    c.put_copies.new.manifest.entries c.put-2.new.manifest.entries c.requires.read read c.in_ok-put.ensures.named
    c.in_ok-put_copies.ensures.noted noted named (entries c.args.folder.now) (entries c.put.new.folder)
    (entries c.put_copies.new.folder) (entries c.put-2.new.folder) c.requires.same c.in_ok-put.ensures.put
    c.in_ok-put_copies.ensures.put put) c.put-2.ensures.put c.put-2.ensures.noted c.put-2.ensures.named

pub returns-in_err-put-clause-older : goal.returns-in_err-put-clause-older
returns-in_err-put-clause-older g c =
    log_older (g.O.Folder.entries c.args.from.now) c.args.log.now (g.F.Folder.entries c.args.folder.now)
    (g.F.Folder.entries c.put.new.folder) c.requires.read c.put.ensures.either c.put.ensures.others

pub returns-in_err-put_copies-clause-older : goal.returns-in_err-put_copies-clause-older
returns-in_err-put_copies-clause-older g c =
    let first = g.O.Folder.entries c.args.from.now in
    let old = g.F.Folder.entries c.args.folder.now in
    let mid = g.F.Folder.entries c.put.new.folder in
    copies_older first old mid (g.F.Folder.entries c.put_copies.new.folder)
    (log_older first c.args.log.now old mid c.requires.read c.put.ensures.either c.put.ensures.others)
    c.put_copies.ensures.others

pub returns-in_err-master-clause-older : goal.returns-in_err-master-clause-older
returns-in_err-master-clause-older g c =
    let first = g.O.Folder.entries c.args.from.now in
    let old = g.F.Folder.entries c.args.folder.now in
    let mid = g.F.Folder.entries c.put.new.folder in
    copies_older first old mid (g.F.Folder.entries c.put_copies.new.folder)
    (log_older first c.args.log.now old mid c.requires.read c.put.ensures.either c.put.ensures.others)
    c.put_copies.ensures.others

pub returns-clause-older : goal.returns-clause-older
returns-clause-older g c =
    let first = g.O.Folder.entries c.args.from.now in
    let master = c.deref.result.now in
    let read : HasBytes first (name_of saved.Master) master =
    subst (HasBytes first (name_of saved.Master)) (sym c.deref.ensures.value) c.in_ok-master.ensures in
    master_older first c.args.log.now master (g.F.Folder.entries c.args.folder.now)
    (g.F.Folder.entries c.put.new.folder) (g.F.Folder.entries c.put_copies.new.folder)
    (g.F.Folder.entries c.put-2.new.folder) c.requires.read read c.in_ok-put.ensures.put c.put.ensures.either
    c.put.ensures.others
    c.put_copies.ensures.others c.put-2.ensures.either c.put-2.ensures.others
