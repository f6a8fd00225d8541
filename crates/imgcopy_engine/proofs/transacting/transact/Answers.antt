use Rattle.std.proofs.Common.{refl}
use Rattle.imgcopy_engine.specs.Trying.{more, none}
use Rattle.imgcopy_engine.proofs.transacting.transact.Goals as goal

pub loop-init : goal.loop-init
loop-init g c = (c.requires, none)

pub loop-preserved : goal.loop-preserved
loop-preserved g c =
    let ended = c.try_once-ended.ensures in
    (ended.again, more c.loop.invariant.1 ended.tries (c.if-not-is_busy.ensures.yes refl))
