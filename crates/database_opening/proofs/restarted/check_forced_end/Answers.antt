use Rattle.std.proofs.Common.{ℕ, List, subst}
use Rattle.log_prefix.specs.Front.{end_of}
use Rattle.database_files.specs.Evidence.{LacksNothing}
use Rattle.database_files.specs.Master.{spelled}
use Rattle.database_opening.proofs.restarted.check_forced_end.Goals as goal

pub returns-then-is_none-clause-whole : goal.returns-then-is_none-clause-whole
returns-then-is_none-clause-whole g c = λ told.
    let found = c.args.remains.now in
    subst (λ (bytes : List ℕ). LacksNothing (end_of found.log.front.log) found.others.note found.others.manifest
    (spelled found.others.master) found.others.copies.items bytes) c.deref.ensures.value
    (c.in-Ok.ensures.0 (c.is_none.ensures.0 c.if-is_none.true))
