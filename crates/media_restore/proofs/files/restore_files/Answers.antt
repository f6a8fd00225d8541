use Rattle.std.proofs.Common.{◌∙◌, map}
use Rattle.std.proofs.lemmas.Result.{err_from_is_err_and}
use Rattle.media_restore.specs.Files.{Files}
use Rattle.page_core.specs.Page.{volume_bytes}
use Rattle.media_restore.proofs.Restored.{leaves, restored_of, restored_spelled, volume_redone}
use Rattle.media_restore.proofs.files.restore_files.Goals as goal

pub returns-in_err-losers-clause-err : goal.returns-in_err-losers-clause-err
returns-in_err-losers-clause-err g c =
    let files : Files = record {
      log = g.L.Read.remaining c.args.log.now;
      master = g.M.Read.remaining c.args.master.now;
      archives = map g.A.Read.remaining c.args.archives.now;
    } in
    let p = err_from_is_err_and c.from_residual.result c.from_residual.ensures.1 in
    rw (p.1, p.2)
    (leaves files (g.W.Write.contents c.args.writer.now) c.in_err-losers.field-0.0 c.in_err-losers.ensures.err)

pub undo_into-requires : goal.undo_into-requires
undo_into-requires g c =
    let files : Files = record {
      log = g.L.Read.remaining c.args.log.now;
      master = g.M.Read.remaining c.args.master.now;
      archives = map g.A.Read.remaining c.args.archives.now;
    } in
    let from = c.in_ok-losers.ensures.ok in
    (from.0, (from.1.1.to_undo, volume_redone files from.0 _ _ _ from.1.1))

pub returns-in-Ok-clause-ok : goal.returns-in-Ok-clause-ok
returns-in-Ok-clause-ok g c =
    let files : Files = record {
      log = g.L.Read.remaining c.args.log.now;
      master = g.M.Read.remaining c.args.master.now;
      archives = map g.A.Read.remaining c.args.archives.now;
    } in
    let from = c.in_ok-losers.ensures.ok in
    let took = c.undo_into.ensures from.0 from.1.1.to_undo (volume_redone files from.0 _ _ _ from.1.1) in
    let pages = c.deref.result.now in
    let restored = restored_of files from.0 _ _ _ pages from.1.1
    (c.deref.ensures.value ∙ took.made) in
    record {
      pages = pages;
      from = restored;
      volume = volume_bytes pages;
      spells = restored_spelled files pages restored;
      written = c.in-Ok.ensures.ok;
    }

pub returns-clause-err : goal.returns-clause-err
returns-clause-err g c =
    let files : Files = record {
      log = g.L.Read.remaining c.args.log.now;
      master = g.M.Read.remaining c.args.master.now;
      archives = map g.A.Read.remaining c.args.archives.now;
    } in
    let from = c.in_ok-losers.ensures.ok in
    let took = c.undo_into.ensures from.0 from.1.1.to_undo (volume_redone files from.0 _ _ _ from.1.1) in
    let pages = c.deref.result.now in
    let restored = restored_of files from.0 _ _ _ pages from.1.1
    (c.deref.ensures.value ∙ took.made) in
    record {
      pages = pages;
      from = restored;
      volume = volume_bytes pages;
      spells = restored_spelled files pages restored;
      within = c.in-Err.ensures.within;
      written = c.in-Err.ensures.err;
    }
