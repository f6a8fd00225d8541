use Rattle.std.proofs.Common.{◌*◌, ◌≤◌}
use Rattle.engine_rules.specs.EngineState.{IsFit}
use Rattle.database_session.proofs.PageWrites.{IsCleanBelow}
use Rattle.database_session.specs.CommandCalls.{Runs, WritesPages}
use Rattle.database_session.proofs.page_writes.write_pages.Given as goal

abbrev pub invariant-loop-number : goal.invariant-loop-number
invariant-loop-number g l = (l.count ≤ 2 * l.number)
    × Runs (WritesPages l.count) l.initial.engine.state l.engine.state
    × (l.number ≤ l.cursor) × IsFit l.engine.state × IsCleanBelow l.cursor l.engine.state
