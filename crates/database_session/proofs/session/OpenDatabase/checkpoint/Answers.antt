use Rattle.database_session.proofs.CommandRuns.{checkpoint_refused, checkpointed}
use Rattle.database_session.proofs.session.OpenDatabase.checkpoint.Goals as goal

pub returns-in-Ok-clause-made : goal.returns-in-Ok-clause-made
returns-in-Ok-clause-made g c =
    checkpointed c.args.self.now.engine.state c.gathered.new.engine.state c.end_gathered.new.self.engine.state
    c.end_gathered.result c.in-Ok.ensures.gathered c.end_gathered.ensures.ended

pub returns-in-Err-clause-made : goal.returns-in-Err-clause-made
returns-in-Err-clause-made g c =
    checkpoint_refused c.in-Err.why c.args.self.now.engine.state c.gathered.new.engine.state
    c.in-Err.ensures.refused

pub returns-in-Ok-clause-clean : goal.returns-in-Ok-clause-clean
returns-in-Ok-clause-clean g c begin end redo is =
    (c.gathered.new.engine.state, c.in-Ok.ensures.clean, c.end_gathered.ensures.ended)

pub returns-in-Err-clause-clean : goal.returns-in-Err-clause-clean
returns-in-Err-clause-clean g c begin end redo is = absurd (cc)
