use Rattle.engine_rules.specs.Step.{gather_answer}
use Rattle.database_session.proofs.CommandRuns.{gather_more, gather_none, gather_refused}
use Rattle.database_session.proofs.whole_checkpoint.gather_all.Goals as goal

pub loop-init : goal.loop-init
loop-init g c = gather_none c.args.engine.now.state

pub returns-in-Ok-Done-clause-gathered : goal.returns-in-Ok-Done-clause-gathered
returns-in-Ok-Done-clause-gathered g c =
    gather_more c.args.engine.now.state c.loop.engine.state c.ckpt_gather.new.self.state
    (gather_answer c.in-Ok-Done.field-0) c.loop.invariant c.in-Ok-Done.ensures.step

pub returns-in-Err-clause-refused : goal.returns-in-Err-clause-refused
returns-in-Err-clause-refused g c =
    gather_refused c.in-Err.why c.args.engine.now.state c.loop.engine.state c.ckpt_gather.new.self.state
    c.loop.invariant c.in-Err.ensures.step

pub loop-preserved : goal.loop-preserved
loop-preserved g c =
    gather_more c.args.engine.now.state c.loop.engine.state c.ckpt_gather.new.self.state
    (gather_answer c.in-Ok-More.field-0) c.loop.invariant c.in-Ok-More.ensures.step
