use Rattle.std.proofs.Common.{map}
use Rattle.std.proofs.KnownBytes.{Keeps-refl}
use Rattle.std.proofs.lemmas.Result.{err_from_is_err_and}
use Rattle.page_core.specs.Page.{volume_bytes}
use Rattle.log_records.specs.Log.{Log}
use Rattle.media_restore.specs.Files.{Files}
use Rattle.media_restore.specs.FilesLog.{IsRestoredWithLog}
use Rattle.media_restore.proofs.Restored.{restored_spelled}
use Rattle.media_restore.proofs.WithLog.{kept_log, leaves_both}
use Rattle.media_restore.proofs.files_log.restore_with_log.Goals as goal

pub returns-in_err-read-clause-err : goal.returns-in_err-read-clause-err
returns-in_err-read-clause-err g c =
    let files : Files = record {
      log = g.L.Read.remaining c.args.log.now;
      master = g.M.Read.remaining c.args.master.now;
      archives = map g.A.Read.remaining c.args.archives.now;
    } in
    let p = err_from_is_err_and c.from_residual.result c.from_residual.ensures.1 in
    rw (p.1, p.2)
    (leaves_both files (g.W.Write.contents c.args.writer.now) (g.K.Write.contents c.args.log_writer.now)
    c.in_err-read.field-0.0 c.in_err-read.ensures.err)

pub write_log-requires-clause-log : goal.write_log-requires-clause-log
write_log-requires-clause-log g c =
    let files : Files = record {
      log = g.L.Read.remaining c.args.log.now;
      master = g.M.Read.remaining c.args.master.now;
      archives = map g.A.Read.remaining c.args.archives.now;
    } in
    let read = c.in_ok-read.ensures.ok in
    let it = c.in_ok-first_count.ensures files (kept_log files _ read.0 _ _ _ read.1.0 read.1.1) in
    rw (c.deref.ensures.value) it.spelled.valid

pub returns-in-Err-clause-err : goal.returns-in-Err-clause-err
returns-in-Err-clause-err g c =
    let files : Files = record {
      log = g.L.Read.remaining c.args.log.now;
      master = g.M.Read.remaining c.args.master.now;
      archives = map g.A.Read.remaining c.args.archives.now;
    } in
    let read = c.in_ok-read.ensures.ok in
    let it = c.in_ok-first_count.ensures files (kept_log files _ read.0 _ _ _ read.1.0 read.1.1) in
    let after : Log = record { pages = c.in_ok-first_count.first_count; records = c.deref.result.now } in (
      Keeps-refl (g.W.Write.contents c.args.writer.now),
      record {
        pages = c.in_ok-first_count.pages.items;
        after = after;
        from = rw (c.deref.ensures.value) it;
        within = c.in-Err.ensures.within;
        written = c.in-Err.ensures.err;
      },
    )

pub returns-in-Ok-clause-ok : goal.returns-in-Ok-clause-ok
returns-in-Ok-clause-ok g c =
    let files : Files = record {
      log = g.L.Read.remaining c.args.log.now;
      master = g.M.Read.remaining c.args.master.now;
      archives = map g.A.Read.remaining c.args.archives.now;
    } in
    let read = c.in_ok-read.ensures.ok in
    let it = c.in_ok-first_count.ensures files (kept_log files _ read.0 _ _ _ read.1.0 read.1.1) in
    let after : Log = record { pages = c.in_ok-first_count.first_count; records = c.deref.result.now } in
    let pages = c.deref-2.result.now in
    let from : IsRestoredWithLog files pages after = rw (c.deref.ensures.value, c.deref-2.ensures.value) it in
    record {
      pages = pages;
      after = after;
      from = from;
      volume = volume_bytes pages;
      spells = restored_spelled files pages from.from;
      written = c.in-Ok.ensures.ok;
      log_written = c.in_default.ensures.ok;
    }

pub returns-clause-err : goal.returns-clause-err
returns-clause-err g c =
    let files : Files = record {
      log = g.L.Read.remaining c.args.log.now;
      master = g.M.Read.remaining c.args.master.now;
      archives = map g.A.Read.remaining c.args.archives.now;
    } in
    let read = c.in_ok-read.ensures.ok in
    let it = c.in_ok-first_count.ensures files (kept_log files _ read.0 _ _ _ read.1.0 read.1.1) in
    let after : Log = record { pages = c.in_ok-first_count.first_count; records = c.deref.result.now } in
    let pages = c.deref-2.result.now in
    let from : IsRestoredWithLog files pages after = rw (c.deref.ensures.value, c.deref-2.ensures.value) it in
    record {
      pages = pages;
      after = after;
      from = from;
      volume = volume_bytes pages;
      spells = restored_spelled files pages from.from;
      within = c.in-Err-write_volume.ensures.within;
      written = c.in-Err-write_volume.ensures.err;
      log_written = c.in_default.ensures.ok;
    }
