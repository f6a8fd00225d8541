use Rattle.std.proofs.Common.{subst}
use Rattle.database_backup.specs.Backups.{BacksUp}
use Rattle.database_backup.proofs.backup.backup_folder.Goals as goal

pub returns-in-Ok : goal.returns-in-Ok
returns-in-Ok g c = λ well.
    let begun = c.in-Ok.ensures.begins in
    record {
      log = begun.0;
      ids = begun.1;
      first = c.in-Ok.field-0.first;
      begun = c.in-Ok.field-0.session.engine.state;
      begins = begun.2;
      ended = c.backed_up.new.session.engine.state;
      backs_up = subst (λ engine. BacksUp c.args.call.now.full c.args.call.now.on engine.state c.backed_up.new.session.engine.state)
          c.put_point.ensures.engine (c.backed_up.ensures well);
    }
