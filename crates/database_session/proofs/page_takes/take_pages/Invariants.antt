use Rattle.database_session.specs.CommandCopies.{TakesPages}
use Rattle.database_session.specs.CommandCalls.{Runs}
use Rattle.database_session.proofs.page_takes.take_pages.Given as goal

abbrev pub invariant-loop-page : goal.invariant-loop-page
invariant-loop-page g l = Runs (TakesPages l.id l.page) l.initial.engine.state l.engine.state
