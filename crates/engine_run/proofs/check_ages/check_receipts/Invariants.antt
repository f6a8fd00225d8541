use Rattle.std.proofs.Common.{◌≤◌, take}
use Rattle.std.specs.List.{All}
use Rattle.settlement.specs.Receipt.{written}
use Rattle.settlement.specs.Sessions.{all_receipts}
use Rattle.engine_run.proofs.check_ages.check_receipts.Given as goal

-- the records of the sessions so far are not older
abbrev pub invariant-loop-session : goal.invariant-loop-session
invariant-loop-session g l =
    All (λ lsn. l.fn.bound ≤ lsn) (written (all_receipts (take l.session-index l.sessions)))
