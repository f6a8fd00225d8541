use Rattle.std.specs.Io.KnownBytes.{Keeps}
use Rattle.system_files.proofs.retry_would_block.RetryWouldBlockRead.read.Given as goal

abbrev pub invariant-loop : goal.invariant-loop
invariant-loop g l = Keeps (g.F.Read.remaining l.fn.self.stream) (g.F.Read.remaining l.self.stream)
