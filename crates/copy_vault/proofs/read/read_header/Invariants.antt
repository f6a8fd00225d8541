use Rattle.std.proofs.Common.{◌<◌, take}
use Rattle.std.specs.Io.KnownBytes.{Consumes}
use Rattle.copy_vault.proofs.read.read_header.Given as goal

abbrev pub invariant-loop-turn : goal.invariant-loop-turn
invariant-loop-turn g l = record {
  short : l.filled < 64;
  taken : Consumes (g.R.Read.remaining l.fn.reader) (g.R.Read.remaining l.reader) (take l.filled l.header);
}
