use Rattle.std.proofs.Common.{inl, inr, refl, rules, subst}
use Rattle.std.specs.Prelude.{Err, IfSome, ◌≡◌}
use Rattle.engine_calls.specs.declared.refusal.Refusal.TheVariants.{CopyNotComplete}
use Rattle.database_session.proofs.Runs.{runs_none}
use Rattle.database_session.proofs.CommandCopies.{copies_at_once, copies_behind, copies_not, copies_refused}
use Rattle.database_session.proofs.CommandCopies.{stands_behind, stands_not_begun, waits_behind}
use Rattle.database_session.proofs.CommandRuns.{checkpoint_by}
use Rattle.database_session.specs.Calls.{IsAnyReply}
use Rattle.database_session.specs.MadeFiles.{behind_another, behind_last, not_behind}
use Rattle.database_session.specs.UnplacedCopies.{Waits}
use Rattle.database_session.specs.CommandCalls.{IsOfCheckpoint, MakesCommand, SaysOfCommand}
use Rattle.session_lines.specs.Commands.{one_line}
use Rattle.session_lines.specs.declared.said.Said.{Said}
use Rattle.session_lines.specs.declared.said.Said.TheVariants.{Reply, Unplaced}
use Rattle.session_lines.specs.declared.operator_command.OperatorCommand.TheVariants.{Checkpoint}
use Rattle.session_lines.specs.declared.command_said.CommandSaid.TheVariants.{Call}
use Rattle.database_session.proofs.session.OpenDatabase.copy.Goals as goal

pub returns-then-is_point_new-clause-made : goal.returns-then-is_point_new-clause-made
returns-then-is_point_new-clause-made g c =
    copies_at_once c.args.parent c.copy_behind.result c.args.self.now.engine.state c.copy_behind.new.self.engine.state
    c.copy_behind.ensures.made

pub returns-then-is_point_new-clause-behind : goal.returns-then-is_point_new-clause-behind
returns-then-is_point_new-clause-behind g c =
    behind_last (c.is_point_new.ensures.new c.if-is_point_new.true) (c.is_point_new.ensures.placed c.if-is_point_new.true)
    c.copy_behind.ensures.made

pub returns-in-Reply-Ok-clause-behind : goal.returns-in-Reply-Ok-clause-behind
returns-in-Reply-Ok-clause-behind g c =
    behind_another c.checkpoint.new.self.engine.state c.checkpoint.result (search rules) c.checkpoint.ensures.made
    c.checkpoint.ensures.clean c.copy_behind-in-Reply-Ok.ensures.made

pub returns-in-Reply-Err-clause-behind : goal.returns-in-Reply-Err-clause-behind
returns-in-Reply-Err-clause-behind g c =
    not_behind (Reply (Err c.in-Reply-Err.why)) (λ is. is) refl
    (subst (λ (said : Said). MakesCommand Checkpoint c.args.self.now.engine.state (one_line (Call said))
    c.checkpoint.new.self.engine.state) (search rules) c.checkpoint.ensures.made)

pub returns-in-Unplaced-clause-behind : goal.returns-in-Unplaced-clause-behind
returns-in-Unplaced-clause-behind g c =
    not_behind (Unplaced c.in-Unplaced.why) (λ is. is) refl
    (subst (λ (said : Said). MakesCommand Checkpoint c.args.self.now.engine.state (one_line (Call said))
    c.checkpoint.new.self.engine.state) c.in-Unplaced.is c.checkpoint.ensures.made)

pub returns-then-is_point_new-clause-waits : goal.returns-then-is_point_new-clause-waits
returns-then-is_point_new-clause-waits g c = inl c.copy_behind.ensures.waits

pub returns-then-is_point_new-clause-stands : goal.returns-then-is_point_new-clause-stands
returns-then-is_point_new-clause-stands g c =
    stands_behind c.args.parent c.copy_behind.result c.args.self.now.unplaced c.args.self.now.engine.state
    c.args.self.now.engine c.copy_behind.new.self.engine (runs_none IsOfCheckpoint IsAnyReply c.args.self.now.engine.state)
    c.copy_behind.ensures.stands c.copy_behind.ensures.same

pub returns-in-Reply-Ok-clause-waits : goal.returns-in-Reply-Ok-clause-waits
returns-in-Reply-Ok-clause-waits g c =
    let it = c.copy_behind-in-Reply-Ok.ensures.waits in
    inl (
      it.0,
      waits_behind (λ events replies. SaysOfCommand Checkpoint events replies (one_line (Call c.checkpoint.result)))
          it.0 c.copy_behind-in-Reply-Ok.result c.copy_behind-in-Reply-Ok.new.self.unplaced c.args.self.now.engine.state
          c.checkpoint.new.self.engine.state c.copy_behind-in-Reply-Ok.new.self.engine.state c.checkpoint.ensures.made it.1,
    )

pub returns-in-Reply-Ok-clause-stands : goal.returns-in-Reply-Ok-clause-stands
returns-in-Reply-Ok-clause-stands g c =
    stands_behind c.args.parent c.copy_behind-in-Reply-Ok.result c.args.self.now.unplaced c.args.self.now.engine.state
    c.checkpoint.new.self.engine c.copy_behind-in-Reply-Ok.new.self.engine
    (checkpoint_by c.args.self.now.engine.state c.checkpoint.new.self.engine.state (one_line (Call c.checkpoint.result))
    c.checkpoint.ensures.made)
    (subst (λ stages. IfSome c.args.parent (λ id. Waits stages id
    → c.copy_behind-in-Reply-Ok.result ≡ Call (Reply (Err CopyNotComplete)))) c.checkpoint.ensures.unplaced
    c.copy_behind-in-Reply-Ok.ensures.stands)
    (subst (λ stages. IfSome c.args.parent (λ id. Waits stages id
    → c.copy_behind-in-Reply-Ok.new.self.engine ≡ c.checkpoint.new.self.engine)) c.checkpoint.ensures.unplaced
    c.copy_behind-in-Reply-Ok.ensures.same)

pub returns-in-Reply-Err-clause-waits : goal.returns-in-Reply-Err-clause-waits
returns-in-Reply-Err-clause-waits g c = inl (0, tt)

pub returns-in-Reply-Err-clause-stands : goal.returns-in-Reply-Err-clause-stands
returns-in-Reply-Err-clause-stands g c =
    stands_not_begun c.args.parent (Reply (Err c.in-Reply-Err.why)) c.args.self.now.unplaced c.args.self.now.engine.state
    c.checkpoint.new.self.engine.state
    (checkpoint_by c.args.self.now.engine.state c.checkpoint.new.self.engine.state (one_line (Call c.checkpoint.result))
    c.checkpoint.ensures.made)

pub returns-in-Unplaced-clause-waits : goal.returns-in-Unplaced-clause-waits
returns-in-Unplaced-clause-waits g c =
    inr (subst (λ (said : Said). MakesCommand Checkpoint c.args.self.now.engine.state (one_line (Call said))
    c.checkpoint.new.self.engine.state) c.in-Unplaced.is c.checkpoint.ensures.made)

pub returns-in-Unplaced-clause-stands : goal.returns-in-Unplaced-clause-stands
returns-in-Unplaced-clause-stands g c =
    stands_not_begun c.args.parent (Unplaced c.in-Unplaced.why) c.args.self.now.unplaced c.args.self.now.engine.state
    c.checkpoint.new.self.engine.state
    (checkpoint_by c.args.self.now.engine.state c.checkpoint.new.self.engine.state (one_line (Call c.checkpoint.result))
    c.checkpoint.ensures.made)

pub returns-in-Reply-Ok-clause-made : goal.returns-in-Reply-Ok-clause-made
returns-in-Reply-Ok-clause-made g c =
    copies_behind c.args.parent c.copy_behind-in-Reply-Ok.result c.in-Reply-Ok.field-0 _ c.args.self.now.engine.state
    c.checkpoint.new.self.engine.state c.copy_behind-in-Reply-Ok.new.self.engine.state c.in-Reply-Ok.field-0-is
    (subst (λ (said : Said). MakesCommand Checkpoint c.args.self.now.engine.state (one_line (Call said))
    c.checkpoint.new.self.engine.state) c.in-Reply-Ok.is c.checkpoint.ensures.made)
    c.copy_behind-in-Reply-Ok.ensures.made

pub returns-in-Reply-Err-clause-made : goal.returns-in-Reply-Err-clause-made
returns-in-Reply-Err-clause-made g c =
    copies_refused c.args.parent c.in-Reply-Err.field-0 c.in-Reply-Err.why c.args.self.now.engine.state
    c.checkpoint.new.self.engine.state c.in-Reply-Err.field-0-is
    (subst (λ (said : Said). MakesCommand Checkpoint c.args.self.now.engine.state (one_line (Call said))
    c.checkpoint.new.self.engine.state) c.in-Reply-Err.is c.checkpoint.ensures.made)

pub returns-in-Unplaced-clause-made : goal.returns-in-Unplaced-clause-made
returns-in-Unplaced-clause-made g c =
    copies_not c.args.parent (Unplaced c.in-Unplaced.why) c.args.self.now.engine.state
    c.checkpoint.new.self.engine.state (λ is. is)
    (subst (λ (said : Said). MakesCommand Checkpoint c.args.self.now.engine.state (one_line (Call said))
    c.checkpoint.new.self.engine.state) c.in-Unplaced.is c.checkpoint.ensures.made)
