use Rattle.std.proofs.Common.{◌≡◌, ◌+◌, take}
use Rattle.std.specs.List.{sum_by}
use Rattle.settlement.specs.Counts.{written_in}
use Rattle.engine_run.proofs.check_sessions.have_written.Given as goal

-- the changes of the sessions so far, and those that are left
abbrev pub invariant-loop-session : goal.invariant-loop-session
invariant-loop-session g l = l.left + sum_by written_in (take l.session-index l.sessions) ≡ l.fn.count
