use Rattle.std.proofs.Common.{ℕ, List}
use Rattle.std.specs.Io.KnownBytes.{Consumes}
use Rattle.session_lines.proofs.Lines.{HasNoFeed}
use Rattle.session_lines.specs.Lines.{IsReadSoFar, bytes_left}
use Rattle.session_lines.proofs.line_reader.LineReader.next_line.Given as goal

abbrev pub invariant-loop : goal.invariant-loop
invariant-loop g l = (bytes : List ℕ)
    × Consumes (bytes_left g.R.Read.remaining l.fn.self) (bytes_left g.R.Read.remaining l.self) bytes
    × HasNoFeed bytes × IsReadSoFar l.self.line.items l.len l.is_long bytes
