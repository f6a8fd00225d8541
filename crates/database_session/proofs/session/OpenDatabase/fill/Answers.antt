use Rattle.database_session.proofs.CommandCopies.{fills, fills_not, waits_behind}
use Rattle.database_session.specs.CommandCopies.{TakesPages}
use Rattle.database_session.proofs.session.OpenDatabase.fill.Goals as goal

pub returns-in-Ok-clause-made : goal.returns-in-Ok-clause-made
returns-in-Ok-clause-made g c =
    fills c.args.id c.in-Ok.pages c.finish.result c.args.self.now.engine.state c.take_or_drop.new.engine.state
    c.finish.new.self.engine.state c.in-Ok.ensures.taken c.finish.ensures.made

pub returns-in-Ok-clause-waits : goal.returns-in-Ok-clause-waits
returns-in-Ok-clause-waits g c =
    waits_behind (TakesPages c.args.id c.in-Ok.pages) c.args.id c.finish.result c.finish.new.self.unplaced
    c.args.self.now.engine.state c.take_or_drop.new.engine.state c.finish.new.self.engine.state
    c.in-Ok.ensures.taken c.finish.ensures.waits

pub returns-in-Err-clause-made : goal.returns-in-Err-clause-made
returns-in-Err-clause-made g c =
    fills_not c.args.id c.in-Err.why c.args.self.now.engine.state c.take_or_drop.new.engine.state
    c.in-Err.ensures.dropped
