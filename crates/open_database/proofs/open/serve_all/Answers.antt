use Rattle.std.proofs.Common.{subst}
use Rattle.std.specs.Prelude.{OnOk}
use Rattle.database_session.proofs.Public.{begins_all, no_first, no_lines, some_lines}
use Rattle.database_opening.specs.FirstLine.{first_line}
use Rattle.database_session.specs.Session.{ServesAllLines, ServesLines}
use Rattle.open_database.proofs.open.serve_all.Goals as goal

pub returns-in_default-clause-served : goal.returns-in_default-clause-served
returns-in_default-clause-served g c =
    no_lines (first_line c.args.first) (g.R.Read.remaining c.args.input.now) c.args.session.now.engine.state
    (g.W.Write.contents c.args.output.now)

pub returns-in-Ok-write_first-clause-served : goal.returns-in-Ok-write_first-clause-served
returns-in-Ok-write_first-clause-served g c =
    subst (λ input. ServesLines (first_line c.args.first) input c.args.session.now.engine.state
    c.serve.new.self.engine.state (g.W.Write.contents c.args.output.now) (g.W.Write.contents c.serve.new.writer))
    c.in-Ok.ensures
    (some_lines (first_line c.args.first) _ c.args.session.now.engine.state c.serve.new.self.engine.state
    (g.W.Write.contents c.args.output.now) (g.W.Write.contents c.write_first.new.writer)
    (g.W.Write.contents c.serve.new.writer) c.serve.result c.in-Ok-write_first.ensures.written c.serve.ensures.served
    c.serve.ensures.left)

pub returns-in-Ok-write_first-clause-all : goal.returns-in-Ok-write_first-clause-all
returns-in-Ok-write_first-clause-all g c =
    subst (λ input. OnOk c.serve.result (ServesAllLines (first_line c.args.first) input c.args.session.now.engine.state
    c.serve.new.self.engine.state (g.W.Write.contents c.args.output.now) (g.W.Write.contents c.serve.new.writer)))
    c.in-Ok.ensures
    (begins_all (first_line c.args.first) _ c.args.session.now.engine.state c.serve.new.self.engine.state
    (g.W.Write.contents c.args.output.now) (g.W.Write.contents c.write_first.new.writer)
    (g.W.Write.contents c.serve.new.writer) c.serve.result c.in-Ok-write_first.ensures.written
    c.serve.ensures.served)

pub returns-clause-served : goal.returns-clause-served
returns-clause-served g c =
    no_first (first_line c.args.first) (g.R.Read.remaining c.args.input.now) c.args.session.now.engine.state
    (g.W.Write.contents c.args.output.now) (g.W.Write.contents c.write_first.new.writer) c.in-Err.fault
    c.in-Err.ensures.left
