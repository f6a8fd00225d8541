use Rattle.std.proofs.Common.{◌≡◌, []}
use Rattle.std.specs.Io.KnownBytes.{Consumes}
use Rattle.session_lines.specs.Lines.{bytes_left}
use Rattle.session_lines.proofs.line_reader.LineReader.next_byte.Given as goal

abbrev pub invariant-loop : goal.invariant-loop
invariant-loop g l = record {
  left : Consumes (bytes_left g.R.Read.remaining l.fn.self) (bytes_left g.R.Read.remaining l.self) [];
  line : l.self.line ≡ l.fn.self.line;
}
