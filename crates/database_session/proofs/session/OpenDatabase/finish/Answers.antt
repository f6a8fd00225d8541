use Rattle.std.proofs.Common.{refl, subst, sym}
use Rattle.database_session.proofs.CommandCopies.{ends_by_seal, none_waits_then, seals, seals_not, seals_unplaced}
use Rattle.database_session.specs.UnplacedCopies.{WaitsUnlessPlaced}
use Rattle.database_session.specs.CommandCopies.{EndsBySeal, SealsCopy}
use Rattle.database_session.specs.CommandCalls.{Runs}
use Rattle.session_lines.specs.declared.command_said.CommandSaid.TheVariants.{Call, Copied}
use Rattle.session_lines.specs.declared.said.Said.{Said}
use Rattle.session_lines.specs.declared.said.Said.TheVariants.{Unplaced}
use Rattle.database_session.proofs.session.OpenDatabase.finish.Goals as goal

pub returns-in-Reply-clause-made : goal.returns-in-Reply-clause-made
returns-in-Reply-clause-made g c =
    subst (λ engine. Runs (λ events replies. SealsCopy c.args.id c.args.pages events replies
    (Copied c.args.id c.args.pages c.taken_of.result)) c.args.self.now.engine.state engine.state)
    (sym c.place_sealed.ensures.engine)
    (seals c.args.id c.args.pages c.taken_of.result c.args.self.now.engine.state c.complete.new.self.engine.state
    c.in-Ok.answer c.in-Ok.ensures.step c.taken_of.ensures)

pub returns-in-Reply-clause-waits : goal.returns-in-Reply-clause-waits
returns-in-Reply-clause-waits g c = (
  refl,
  none_waits_then c.args.id c.in-Ok.answer c.place_sealed.result c.in-Reply.field-0 c.place_sealed.new.self.unplaced
      c.in-Reply.is c.place_sealed.ensures.says c.place_sealed.ensures.waits,
)

pub returns-in-Unplaced-clause-waits : goal.returns-in-Unplaced-clause-waits
returns-in-Unplaced-clause-waits g c = (
  subst (λ (it : Said). WaitsUnlessPlaced c.args.id it c.place_sealed.new.self.unplaced) c.in-Unplaced.is
      c.place_sealed.ensures.waits,
  subst (λ engine. Runs (EndsBySeal c.args.id) c.args.self.now.engine.state engine.state)
      (sym c.place_sealed.ensures.engine)
      (ends_by_seal c.args.id c.args.self.now.engine.state c.complete.new.self.engine.state c.in-Ok.answer
      c.in-Ok.ensures.step),
)

pub returns-in-Unplaced-clause-made : goal.returns-in-Unplaced-clause-made
returns-in-Unplaced-clause-made g c =
    subst (λ engine. Runs (λ events replies. SealsCopy c.args.id c.args.pages events replies
    (Call (Unplaced c.in-Unplaced.fault))) c.args.self.now.engine.state engine.state)
    (sym c.place_sealed.ensures.engine)
    (seals_unplaced c.args.id c.args.pages c.args.self.now.engine.state c.complete.new.self.engine.state c.in-Ok.answer
    c.in-Unplaced.fault c.in-Ok.ensures.step)

pub returns-in-Err-clause-made : goal.returns-in-Err-clause-made
returns-in-Err-clause-made g c =
    seals_not c.args.id c.args.pages c.in-Err.why c.args.self.now.engine.state c.complete.new.self.engine.state
    c.apply.new.self.state c.apply.result c.in-Err.ensures.step c.apply.ensures.step
