use Rattle.database_session.proofs.CommandRuns.{flush_refused, flushes}
use Rattle.database_session.proofs.session.OpenDatabase.flush.Goals as goal

pub returns-in-Ok-clause-made : goal.returns-in-Ok-clause-made
returns-in-Ok-clause-made g c =
    flushes c.in-Ok.count c.args.self.now.engine.state c.write_pages.new.engine.state c.in-Ok.ensures.written

pub returns-in-Err-clause-made : goal.returns-in-Err-clause-made
returns-in-Err-clause-made g c =
    flush_refused c.in-Err.why c.args.self.now.engine.state c.write_pages.new.engine.state c.in-Err.ensures.refused
