use Rattle.std.proofs.Common.{arith}
use Rattle.media_restore.proofs.Rebuilds.{of_memory}
use Rattle.media_restore.proofs.rebuilt.undo.Goals as goal

pub returns-clause-err : goal.returns-clause-err
returns-clause-err c =
    of_memory c.in-Err.fault
    (λ full. omega (arith, c.requires.room, c.in-Err.ensures.full.0 full))
