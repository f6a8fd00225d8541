use Rattle.database_files.specs.LeftOut.{behind}
use Rattle.database_files.proofs.Public.{was_kept}
use Rattle.database_opening.proofs.made_ready.make_log_ready.Goals as goal

pub returns-clause-kept : goal.returns-clause-kept
returns-clause-kept g c = λ cut worth.
    let entries = g.F.Folder.entries in
    was_kept (behind c.args.remains.now.log) (entries c.args.folder.now) (entries c.keep_behind.new.folder)
    (entries c.forget_closing.new.folder) (c.in_ok-keep_behind.ensures.kept cut worth)
    c.forget_closing.ensures.others
