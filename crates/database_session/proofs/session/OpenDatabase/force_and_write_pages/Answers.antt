use Rattle.std.specs.Prelude.{Ok}
use Rattle.engine_calls.specs.declared.event.Answer.TheVariants.{Forced}
use Rattle.engine_calls.specs.declared.event.Event.TheVariants.{Force}
use Rattle.engine_rules.specs.Step.{reply_of}
use Rattle.database_session.proofs.Runs.{any_reply, answered_well, closing_goes_on, runs_one, runs_then}
use Rattle.database_session.proofs.CommandRuns.{refused_by, written_by}
use Rattle.database_session.specs.Calls.{IsAnyReply, IsNoFault, IsOfClosing}
use Rattle.database_session.proofs.session.OpenDatabase.force_and_write_pages.Goals as goal

pub returns-in_err-force-clause-ran : goal.returns-in_err-force-clause-ran
returns-in_err-force-clause-ran g c =
    runs_one IsOfClosing IsAnyReply c.args.self.now.engine.state c.force.new.self.state Force
    (reply_of Forced c.force.result) tt tt c.force.ensures.step

pub returns-in-Ok-clause-ran : goal.returns-in-Ok-clause-ran
returns-in-Ok-clause-ran g c =
    closing_goes_on c.args.self.now.engine.state c.force.new.self.state c.write_pages.new.engine.state
    (runs_one IsOfClosing IsNoFault c.args.self.now.engine.state c.force.new.self.state Force
    (Ok (Forced c.in_ok-force.field-0)) tt (answered_well (Forced c.in_ok-force.field-0)) c.in_ok-force.ensures.step)
    (any_reply c.force.new.self.state c.write_pages.new.engine.state
    (written_by c.in-Ok.field-0 c.force.new.self.state c.write_pages.new.engine.state c.in-Ok.ensures.written))

pub returns-in-Ok-clause-well : goal.returns-in-Ok-clause-well
returns-in-Ok-clause-well g c =
    runs_then IsOfClosing IsNoFault c.args.self.now.engine.state c.force.new.self.state
    c.write_pages.new.engine.state
    (runs_one IsOfClosing IsNoFault c.args.self.now.engine.state c.force.new.self.state Force
    (Ok (Forced c.in_ok-force.field-0)) tt (answered_well (Forced c.in_ok-force.field-0)) c.in_ok-force.ensures.step)
    (written_by c.in-Ok.field-0 c.force.new.self.state c.write_pages.new.engine.state c.in-Ok.ensures.written)

pub returns-in-Err-clause-ran : goal.returns-in-Err-clause-ran
returns-in-Err-clause-ran g c =
    closing_goes_on c.args.self.now.engine.state c.force.new.self.state c.write_pages.new.engine.state
    (runs_one IsOfClosing IsNoFault c.args.self.now.engine.state c.force.new.self.state Force
    (Ok (Forced c.in_ok-force.field-0)) tt (answered_well (Forced c.in_ok-force.field-0)) c.in_ok-force.ensures.step)
    (refused_by c.in-Err.why c.force.new.self.state c.write_pages.new.engine.state c.in-Err.ensures.refused)
