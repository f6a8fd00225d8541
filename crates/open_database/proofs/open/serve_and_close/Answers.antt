use Rattle.std.proofs.Common.{subst, ◌∙◌}
use Rattle.std.specs.Prelude.{OnOk}
use Rattle.database_session.proofs.Public.{by_all_lines, by_lines, by_lines_lives}
use Rattle.database_session.specs.Calls.{IsAnyReply, IsOfClosing, RunsBy}
use Rattle.database_session.specs.Closing.{ClosesWell}
use Rattle.database_opening.specs.FirstLine.{first_line}
use Rattle.database_session.specs.Session.{ServesAllLines, ServesLines}
use Rattle.open_database.proofs.open.serve_and_close.Goals as goal
use Rattle.open_database.proofs.open.serve_and_close.Goals.{After-close}

served : (g : _) (c : After-close g)
    → ServesLines (first_line c.args.begun.0) (g.R.Read.remaining c.args.input.now) c.args.session.now.engine.state
    c.serve_all-served.new.session.engine.state (g.W.Write.contents c.args.output.now)
    (g.W.Write.contents c.serve_all-served.new.output)
served g c =
    subst (λ engine. ServesLines (first_line c.args.begun.0) (g.R.Read.remaining c.args.input.now) engine.state
    c.serve_all-served.new.session.engine.state
    (g.W.Write.contents c.args.output.now) (g.W.Write.contents c.serve_all-served.new.output))
    (c.keep_placed.ensures.engine ∙ c.put_point.ensures.engine)
    c.serve_all-served.ensures.served

closed : (g : _) (c : After-close g)
    → RunsBy IsOfClosing IsAnyReply c.serve_all-served.new.session.engine.state c.close.new.self.engine.state
closed g c =
    subst (λ engine. RunsBy IsOfClosing IsAnyReply engine.state c.close.new.self.engine.state) c.note_served.ensures.engine
    c.close.ensures.ran

pub returns-clause-lives : goal.returns-clause-lives
returns-clause-lives g c =
    by_lines_lives (first_line c.args.begun.0) (g.R.Read.remaining c.args.input.now) c.args.session.now.engine.state
    c.serve_all-served.new.session.engine.state c.close.new.self.engine.state (g.W.Write.contents c.args.output.now)
    (g.W.Write.contents c.serve_all-served.new.output) (served g c) (closed g c)

pub returns-clause-lines : goal.returns-clause-lines
returns-clause-lines g c =
    by_lines (first_line c.args.begun.0) (g.R.Read.remaining c.args.input.now) c.args.session.now.engine.state c.serve_all-served.new.session.engine.state
    c.close.new.self.engine.state (g.W.Write.contents c.args.output.now)
    (g.W.Write.contents c.serve_all-served.new.output) (served g c) (closed g c)

pub returns-clause-all : goal.returns-clause-all
returns-clause-all g c well =
    by_all_lines (first_line c.args.begun.0) (g.R.Read.remaining c.args.input.now) c.args.session.now.engine.state
    c.serve_all-served.new.session.engine.state c.close.new.self.engine.state (g.W.Write.contents c.args.output.now)
    (g.W.Write.contents c.serve_all-served.new.output) c.serve_all-served.result c.note_served.new.session.has_failed
    (subst (λ engine. OnOk c.serve_all-served.result (ServesAllLines (first_line c.args.begun.0)
    (g.R.Read.remaining c.args.input.now) engine.state c.serve_all-served.new.session.engine.state
    (g.W.Write.contents c.args.output.now) (g.W.Write.contents c.serve_all-served.new.output)))
    (c.keep_placed.ensures.engine ∙ c.put_point.ensures.engine)
    c.serve_all-served.ensures.all)
    c.note_served.ensures.failed (c.close.ensures.stays well)
    (subst (λ engine. ClosesWell engine.state c.close.new.self.engine.state) c.note_served.ensures.engine
    (c.close.ensures.well well))
