use Rattle.std.proofs.Common.{◌≤◌, take}
use Rattle.std.specs.List.{All, filter_map}
use Rattle.engine_run.specs.Settled.{begin_of}
use Rattle.engine_run.proofs.check_ages.check_points.Given as goal

-- the Points so far are not older
abbrev pub invariant-loop-work : goal.invariant-loop-work
invariant-loop-work l =
    All (λ lsn. l.fn.bound ≤ lsn) (filter_map begin_of (take l.work-index l.works))
