use Rattle.database_session.proofs.CommandCopies.{begins_and_fills, begins_not, given_too, makes_runs, none_waits, not_begun_on}
use Rattle.database_session.proofs.CommandCopies.{waits_behind}
use Rattle.database_session.specs.Calls.{SaysOf, copy_call}
use Rattle.database_session.proofs.session.OpenDatabase.copy_behind.Goals as goal

pub returns-in-Some-clause-made : goal.returns-in-Some-clause-made
returns-in-Some-clause-made g c =
    begins_and_fills c.args.parent c.in-Some.id c.begin_on-begun.result c.fill.result c.args.self.now.engine.state
    c.begin_on-begun.new.self.engine.state c.fill.new.self.engine.state c.in-Some.ensures.found
    c.begin_on-begun.ensures.made c.fill.ensures.made

pub returns-in-Some-clause-stands : goal.returns-in-Some-clause-stands
returns-in-Some-clause-stands g c =
    not_begun_on c.args.parent c.args.self.now.unplaced c.begin_on-begun.result c.in-Some.id _ c.in-Some.ensures.found
    c.begin_on-begun.ensures.stands

pub returns-in-Some-clause-same : goal.returns-in-Some-clause-same
returns-in-Some-clause-same g c =
    not_begun_on c.args.parent c.args.self.now.unplaced c.begin_on-begun.result c.in-Some.id _ c.in-Some.ensures.found
    c.begin_on-begun.ensures.stands

pub returns-in-Some-clause-given : goal.returns-in-Some-clause-given
returns-in-Some-clause-given g c =
    given_too c.in-Some.id c.fill.result c.fill.new.self.unplaced c.args.self.now.unread.items
    c.begin_on-begun.new.self.engine.state c.fill.new.self.engine.state c.fill.ensures.waits
    (c.begin_on-begun.ensures.given c.in-Some.id c.in-Some.ensures.found)

pub returns-in-Some-clause-waits : goal.returns-in-Some-clause-waits
returns-in-Some-clause-waits g c = (
  c.in-Some.id,
  waits_behind (λ events replies. SaysOf (copy_call c.args.parent) events replies c.begin_on-begun.result) c.in-Some.id
      c.fill.result c.fill.new.self.unplaced c.args.self.now.engine.state c.begin_on-begun.new.self.engine.state
      c.fill.new.self.engine.state
      (makes_runs (copy_call c.args.parent) c.begin_on-begun.result c.args.self.now.engine.state
      c.begin_on-begun.new.self.engine.state c.begin_on-begun.ensures.made)
      c.fill.ensures.waits,
)

pub returns-in-None-clause-waits : goal.returns-in-None-clause-waits
returns-in-None-clause-waits g c =
    none_waits c.begin_on-begun.result c.begin_on-begun.new.self.unplaced c.args.self.now.engine.state
    c.begin_on-begun.new.self.engine.state c.begin_on-begun.ensures.replied

pub returns-in-None-clause-made : goal.returns-in-None-clause-made
returns-in-None-clause-made g c =
    begins_not c.args.parent c.begin_on-begun.result c.args.self.now.engine.state
    c.begin_on-begun.new.self.engine.state (c.id_of.ensures.none c.in-None.is) c.begin_on-begun.ensures.made
