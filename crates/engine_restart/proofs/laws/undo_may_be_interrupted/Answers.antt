use Rattle.engine_restart.proofs.Interrupted.{undone_always}
use Rattle.engine_restart.proofs.laws.undo_may_be_interrupted.Goals as goal

pub returns : goal.returns
returns c =
    let laws = c.undo_takes_back_what_is_pending.ensures in
    undone_always (record { each = laws.each; losers = laws.losers; falling = laws.falling })
