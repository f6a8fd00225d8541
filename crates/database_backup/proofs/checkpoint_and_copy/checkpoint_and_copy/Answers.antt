use Rattle.std.proofs.Common.{rules, subst, sym}
use Rattle.std.specs.Io.KnownBytes.{Appends}
use Rattle.database_session.proofs.Public.{copies_behind_point, tells_copy}
use Rattle.session_lines.specs.Commands.{IsToldWell}
use Rattle.database_session.specs.CommandCalls.{MakesCommand}
use Rattle.session_lines.specs.Commands.{one_line, text_of}
use Rattle.session_lines.specs.declared.operator_command.OperatorCommand.TheVariants.{Copy}
use Rattle.session_lines.specs.declared.command_said.CommandSaid.TheVariants.{Call}
use Rattle.database_backup.proofs.checkpoint_and_copy.checkpoint_and_copy.Goals as goal

pub returns-clause-made : goal.returns-clause-made
returns-clause-made g c =
    let well : IsToldWell (Call c.checkpoint-point.result) = search rules in
    copies_behind_point c.args.on c.copied.result c.checkpoint-point.result c.copy-copied.result
    c.args.session.now.engine.state c.checkpoint-point.new.self.engine.state c.is_told-2.new.session.engine.state well
    c.copied.ensures c.checkpoint-point.ensures.made c.checkpoint-point.ensures.clean
    (subst (λ engine. MakesCommand (Copy c.args.on) c.checkpoint-point.new.self.engine.state
    (one_line c.copy-copied.result) engine.state) (sym c.is_told-2.ensures.engine)
    (subst (λ engine. MakesCommand (Copy c.args.on) engine.state (one_line c.copy-copied.result)
    c.copy-copied.new.self.engine.state) c.is_told.ensures.engine c.copy-copied.ensures.made))

pub returns-clause-told : goal.returns-clause-told
returns-clause-told g c =
    let well : IsToldWell (Call c.checkpoint-point.result) = search rules in
    let first : Appends (g.W.Write.contents c.args.output.now) (g.W.Write.contents c.is_told.new.output)
    (text_of (one_line (Call c.checkpoint-point.result))) = search rules in
    let last : Appends (g.W.Write.contents c.is_told.new.output) (g.W.Write.contents c.is_told-2.new.output)
    (text_of (one_line c.copy-copied.result)) = search rules in
    tells_copy c.copied.result c.checkpoint-point.result c.copy-copied.result (g.W.Write.contents c.args.output.now)
    (g.W.Write.contents c.is_told.new.output) (g.W.Write.contents c.is_told-2.new.output) well c.copied.ensures first last
