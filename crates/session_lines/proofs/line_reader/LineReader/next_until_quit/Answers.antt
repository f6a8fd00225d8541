use Rattle.std.proofs.Common.{subst, take}
use Rattle.std.specs.Prelude.{codes}
use Rattle.session_lines.proofs.Lines.{over_at_quit}
use Rattle.session_lines.specs.Lines.{bytes_left}
use Rattle.session_lines.specs.Commands.{SpellsText}
use Rattle.session_lines.proofs.line_reader.LineReader.next_until_quit.Goals as goal

pub returns-in-Line : goal.returns-in-Line
returns-in-Line g c =
    over_at_quit (bytes_left g.R.Read.remaining c.args.self.now)
    (bytes_left g.R.Read.remaining c.next_line.new.self)
    (take c.in-Line.len c.next_line.new.self.line.items) c.in-Line.ensures.1
    (subst (λ bytes. SpellsText bytes (codes "quit")) c.line.ensures (c.is_quit.ensures.0 c.if-is_quit.true))
