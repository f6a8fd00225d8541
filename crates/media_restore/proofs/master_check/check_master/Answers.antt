use Rattle.std.proofs.Common.{refl}
use Rattle.std.proofs.lemmas.Result.{err_from_is_err_and}
use Rattle.media_restore.specs.Files.{IsOfLog}
use Rattle.media_restore.specs.MasterCheck.{of_the_master, the_log, the_master}
use Rattle.media_restore.proofs.master_check.check_master.Goals as goal

pub returns-in_err-read_master-clause-refused : goal.returns-in_err-read_master-clause-refused
returns-in_err-read_master-clause-refused g c =
    let found = c.in_ok-kept.ensures.found in
    let log = found.0 in
    let of_log : IsOfLog (g.L.Read.remaining c.args.log.now) log = record {
      valid = found.1.1.1.1.0;
      linked = found.1.1.1.0;
      spelled = found.1.1.1.1.1;
    } in
    let why = c.in_err-read_master.ensures.err log found.1.0 found.1.1.1.0 in
    let p = err_from_is_err_and c.from_residual-in_err-read_master.result c.from_residual-in_err-read_master.ensures.1 in
    rw (p.1, p.2) (of_the_master log of_log why)

pub returns-clause-right : goal.returns-clause-right
returns-clause-right g c =
    let found = c.in_ok-kept.ensures.found in
    let log = found.0 in
    record {
      read = log;
      named = c.in_ok-read_master.field-0;
      of_log = record {
        valid = found.1.1.1.1.0;
        linked = found.1.1.1.0;
        spelled = found.1.1.1.1.1;
      };
      of_master = c.in_ok-read_master.ensures.ok log found.1.0 found.1.1.1.0;
    }

pub returns-in_err-kept-clause-stops : goal.returns-in_err-kept-clause-stops
returns-in_err-kept-clause-stops g c =
    let p = err_from_is_err_and c.from_residual.result c.from_residual.ensures.1 in
    rw (p.1, p.2) (the_log c.in_err-kept.field-0.0 refl c.in_err-kept.ensures.unread refl)

pub returns-in_err-read_master-clause-stops : goal.returns-in_err-read_master-clause-stops
returns-in_err-read_master-clause-stops g c =
    let found = c.in_ok-kept.ensures.found in
    let log = found.0 in
    let of_log : IsOfLog (g.L.Read.remaining c.args.log.now) log = record {
      valid = found.1.1.1.1.0;
      linked = found.1.1.1.0;
      spelled = found.1.1.1.1.1;
    } in
    let p = err_from_is_err_and c.from_residual-in_err-read_master.result c.from_residual-in_err-read_master.ensures.1 in
    rw (p.1, p.2) (the_master log of_log (c.read_changes.ensures.known, c.in_ok-kept.ensures.end)
    c.in_err-read_master.ensures.stops)
