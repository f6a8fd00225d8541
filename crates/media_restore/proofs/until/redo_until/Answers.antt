use Rattle.std.proofs.Common.{ap, sym, ◌∙◌}
use Rattle.page_core.specs.Page.{volume_bytes}
use Rattle.media_restore.proofs.Untils.{spelled_volume}
use Rattle.media_restore.proofs.until.redo_until.Goals as goal

pub returns-in-Ok-write_volume-clause-ok : goal.returns-in-Ok-write_volume-clause-ok
returns-in-Ok-write_volume-clause-ok g c =
    let found = c.in_ok-found.ensures.found in
    let pages = c.deref.result.now in
    record {
      writes = record {
        made_of = found.0;
        valid = found.1.0.of_log.valid;
        linked = found.1.0.of_log.linked;
        read = found.1.0.of_log.spelled;
        volume = volume_bytes pages;
        spells = spelled_volume found.0 pages (c.deref.ensures.value ∙ found.1.1.pages);
        written = c.in-Ok-write_volume.ensures.ok;
      };
      last = found.1.0.last;
    }

pub returns-clause-err : goal.returns-clause-err
returns-clause-err g c =
    let found = c.in_ok-found.ensures.found in
    let pages = c.deref.result.now in
    record {
      writes = record {
        made_of = found.0;
        valid = found.1.0.of_log.valid;
        linked = found.1.0.of_log.linked;
        read = found.1.0.of_log.spelled;
        volume = volume_bytes pages;
        spells = spelled_volume found.0 pages (c.deref.ensures.value ∙ found.1.1.pages);
        within = c.in-Err.ensures.within;
        written = c.in-Err.ensures.err;
      };
      last = found.1.0.last;
    }
