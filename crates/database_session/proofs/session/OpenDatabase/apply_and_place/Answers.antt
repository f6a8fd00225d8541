use Rattle.std.proofs.Common.{ℕ, ◌≡◌, [], subst, sym}
use Rattle.engine_calls.specs.declared.event.Event.{Event}
use Rattle.engine_calls.specs.declared.event.Event.TheVariants.{CopyInc}
use Rattle.database_session.proofs.CopyCalls.{begun_at_once}
use Rattle.database_session.proofs.Served.{made_end, made_plain, made_seal}
use Rattle.database_session.specs.Calls.{Makes, MakesOne}
use Rattle.database_session.specs.UnplacedCopies.{Waits}
use Rattle.database_session.proofs.session.OpenDatabase.apply_and_place.Goals as goal

pub returns-in-Seals-clause-made : goal.returns-in-Seals-clause-made
returns-in-Seals-clause-made g c =
    subst (λ (event : Event). Makes event c.args.self.now.engine.state c.seal.result c.seal.new.self.engine.state)
    (sym c.in-Seals.ensures.kind)
    (made_seal c.in-Seals.id c.args.self.now.engine.state c.seal.new.self.engine.state c.seal.result c.seal.ensures.says)

pub returns-in-EndsCheckpoint-clause-made : goal.returns-in-EndsCheckpoint-clause-made
returns-in-EndsCheckpoint-clause-made g c =
    subst (λ (event : Event). Makes event c.args.self.now.engine.state c.end_checkpoint.result
    c.end_checkpoint.new.self.engine.state) (sym c.in-EndsCheckpoint.ensures.kind)
    (made_end c.args.self.now.engine.state c.end_checkpoint.new.self.engine.state c.end_checkpoint.result
    c.end_checkpoint.ensures.says)

pub returns-in-Plain-clause-made : goal.returns-in-Plain-clause-made
returns-in-Plain-clause-made g c =
    made_plain c.args.event c.args.self.now.engine.state c.apply.new.self.state c.apply.result
    c.in-Plain.ensures.kind c.in-Plain.ensures.fits c.apply.ensures.step

pub returns-in-BeginsCopy-Some-clause-once : goal.returns-in-BeginsCopy-Some-clause-once
returns-in-BeginsCopy-Some-clause-once g c =
    begun_at_once c.args.event c.in-BeginsCopy-Some.field-0 c.in-BeginsCopy-Some.parent c.args.self.now.unread.items
    c.args.self.now.unplaced c.args.self.now.engine.state c.begin_increment.result c.begin_increment.new.self.engine.state
    c.in-BeginsCopy-Some.ensures.kind c.in-BeginsCopy-Some.field-0-is
    (subst (λ (id : ℕ). c.args.self.now.unread.items ≡ [] → ¬ Waits c.args.self.now.unplaced id
    → MakesOne (CopyInc id) c.args.self.now.engine.state c.begin_increment.result
    c.begin_increment.new.self.engine.state) c.in-BeginsCopy-Some.parent-is c.begin_increment.ensures.once)
