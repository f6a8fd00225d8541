use Rattle.copy_vault.specs.declared.copy_id.TheConstants.{MAX_COPIES}
use Rattle.std.proofs.Common.{◌+◌}
use Rattle.database_session.proofs.Waiting.{none_waits}
use Rattle.database_session.proofs.unplaced_copies.UnplacedCopies.new.Goals as goal

pub returns : goal.returns
returns c = λ id.
    none_waits c.in_ok-stages.stages.items (MAX_COPIES + 1) id
    (c.in_ok-stages.ensures.items_if_clones_equal (λ y is. is))
