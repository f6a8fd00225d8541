use Rattle.std.proofs.Common.{refl}
use Rattle.imgcopy_engine.specs.Reopened.{not_kept}
use Rattle.imgcopy_engine.proofs.reopen.log_alone.Goals as goal

pub returns-in-Err-clause-fault : goal.returns-in-Err-clause-fault
returns-in-Err-clause-fault c =
    let found = c.in_ok-found.found in
    not_kept found.bytes.items found.front found.device c.in_ok-found.ensures.whole c.in_ok-found.ensures.front refl
    c.in-Err.ensures.failed
