use Rattle.database_session.proofs.CopyCalls.{parent_waits}
use Rattle.database_session.proofs.session.OpenDatabase.begin_increment.Goals as goal

pub returns-then-has-clause-made : goal.returns-then-has-clause-made
returns-then-has-clause-made g c = parent_waits c.args.parent c.args.self.now.engine.state
