use Rattle.std.proofs.Common.{rules, subst, sym}
use Rattle.std.specs.Prelude.{IfErr, OnOk}
use Rattle.database_session.proofs.CommandRuns.{help_left, help_taken, status_left, status_taken}
use Rattle.database_session.specs.Session.{LeavesCommand, TakesCommand}
use Rattle.session_lines.specs.declared.operator_command.OperatorCommand.{OperatorCommand}
use Rattle.session_lines.specs.declared.operator_command.OperatorCommand.TheVariants.{Status}
use Rattle.database_session.proofs.session.OpenDatabase.take_command.Goals as goal

pub returns-in-Help-clause-taken : goal.returns-in-Help-clause-taken
returns-in-Help-clause-taken g c =
    subst (λ (command : OperatorCommand). OnOk c.write_text.result (TakesCommand command c.args.self.now.engine.state
    c.args.self.now.engine.state (g.F.Folder.entries c.args.self.now.folder)
    (g.F.Folder.is_stored c.args.self.now.folder) (g.W.Write.contents c.args.writer.now)
    (g.W.Write.contents c.write_text.new.writer))) (sym c.in-Help.is)
    (help_taken c.write_text.result c.args.self.now.engine.state c.as_bytes.result.now
    (g.F.Folder.entries c.args.self.now.folder) (g.F.Folder.is_stored c.args.self.now.folder)
    (g.W.Write.contents c.args.writer.now) (g.W.Write.contents c.write_text.new.writer) (search rules)
    c.write_text.ensures.ok)

pub returns-in-Help-clause-left : goal.returns-in-Help-clause-left
returns-in-Help-clause-left g c =
    subst (λ (command : OperatorCommand). IfErr c.write_text.result (LeavesCommand command c.args.self.now.engine.state
    c.args.self.now.engine.state (g.F.Folder.entries c.args.self.now.folder)
    (g.F.Folder.is_stored c.args.self.now.folder) (g.W.Write.contents c.args.writer.now)
    (g.W.Write.contents c.write_text.new.writer))) (sym c.in-Help.is)
    (help_left c.write_text.result c.args.self.now.engine.state c.as_bytes.result.now
    (g.F.Folder.entries c.args.self.now.folder) (g.F.Folder.is_stored c.args.self.now.folder)
    (g.W.Write.contents c.args.writer.now) (g.W.Write.contents c.write_text.new.writer) (search rules)
    c.write_text.ensures.err)

pub returns-in-Status-clause-taken : goal.returns-in-Status-clause-taken
returns-in-Status-clause-taken g c =
    subst (λ (command : OperatorCommand). OnOk c.tell_status.result (TakesCommand command c.args.self.now.engine.state
    c.tell_status.new.self.engine.state (g.F.Folder.entries c.tell_status.new.self.folder)
    (g.F.Folder.is_stored c.tell_status.new.self.folder) (g.W.Write.contents c.args.writer.now)
    (g.W.Write.contents c.tell_status.new.writer))) (sym c.in-Status.is)
    (subst (λ engine. OnOk c.tell_status.result (TakesCommand Status c.args.self.now.engine.state engine.state
    (g.F.Folder.entries c.tell_status.new.self.folder) (g.F.Folder.is_stored c.tell_status.new.self.folder)
    (g.W.Write.contents c.args.writer.now) (g.W.Write.contents c.tell_status.new.writer)))
    (sym c.tell_status.ensures.engine)
    (status_taken c.tell_status.result c.args.self.now.engine.state (g.F.Folder.entries c.tell_status.new.self.folder)
    (g.F.Folder.is_stored c.tell_status.new.self.folder) (g.W.Write.contents c.args.writer.now)
    (g.W.Write.contents c.tell_status.new.writer) c.tell_status.ensures.ok))

pub returns-in-Status-clause-left : goal.returns-in-Status-clause-left
returns-in-Status-clause-left g c =
    subst (λ (command : OperatorCommand). IfErr c.tell_status.result (LeavesCommand command c.args.self.now.engine.state
    c.tell_status.new.self.engine.state (g.F.Folder.entries c.tell_status.new.self.folder)
    (g.F.Folder.is_stored c.tell_status.new.self.folder) (g.W.Write.contents c.args.writer.now)
    (g.W.Write.contents c.tell_status.new.writer))) (sym c.in-Status.is)
    (subst (λ engine. IfErr c.tell_status.result (LeavesCommand Status c.args.self.now.engine.state engine.state
    (g.F.Folder.entries c.tell_status.new.self.folder) (g.F.Folder.is_stored c.tell_status.new.self.folder)
    (g.W.Write.contents c.args.writer.now) (g.W.Write.contents c.tell_status.new.writer)))
    (sym c.tell_status.ensures.engine)
    (status_left c.tell_status.result c.args.self.now.engine.state (g.F.Folder.entries c.tell_status.new.self.folder)
    (g.F.Folder.is_stored c.tell_status.new.self.folder) (g.W.Write.contents c.args.writer.now)
    (g.W.Write.contents c.tell_status.new.writer) c.tell_status.ensures.err))
