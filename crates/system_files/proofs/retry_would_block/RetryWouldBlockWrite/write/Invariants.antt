use Rattle.std.specs.Io.KnownBytes.{Keeps}
use Rattle.system_files.proofs.retry_would_block.RetryWouldBlockWrite.write.Given as goal

abbrev pub invariant-loop : goal.invariant-loop
invariant-loop g l = Keeps (g.F.Write.contents l.fn.self.stream) (g.F.Write.contents l.self.stream)
