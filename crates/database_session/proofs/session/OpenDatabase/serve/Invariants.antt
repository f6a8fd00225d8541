use Rattle.database_session.proofs.Served.{HasServed}
use Rattle.session_lines.specs.Lines.{bytes_left}
use Rattle.database_session.proofs.session.OpenDatabase.serve.Given as goal

abbrev pub invariant-loop-number : goal.invariant-loop-number
invariant-loop-number g l = g.F.Folder.is_claimed l.self.folder
    × HasServed (bytes_left g.R.Read.remaining l.initial.lines) (bytes_left g.R.Read.remaining l.lines) l.number
    l.initial.self.engine.state l.self.engine.state (g.W.Write.contents l.initial.writer) (g.W.Write.contents l.writer)
