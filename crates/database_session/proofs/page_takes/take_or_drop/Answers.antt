use Rattle.database_session.proofs.CommandCopies.{drops}
use Rattle.database_session.proofs.page_takes.take_or_drop.Goals as goal

pub returns-in-Err-clause-dropped : goal.returns-in-Err-clause-dropped
returns-in-Err-clause-dropped g c =
    drops c.args.id c.in-Err.why c.args.engine.now.state c.take_pages.new.engine.state c.apply.new.self.state
    c.apply.result c.in-Err.ensures.refused c.apply.ensures.step
