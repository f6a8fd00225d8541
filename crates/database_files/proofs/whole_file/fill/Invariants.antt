use Rattle.std.proofs.Common.{◌≡◌, ◌≤◌, length, take}
use Rattle.std.specs.Io.KnownBytes.{Consumes}
use Rattle.database_files.proofs.whole_file.fill.Given as goal

abbrev pub invariant-loop : goal.invariant-loop
invariant-loop g l = record {
  within : l.len ≤ length l.bytes;
  same : length l.bytes ≡ length l.fn.bytes;
  turns : l.counter ≤ l.len;
  taken : Consumes (g.R.Read.remaining l.fn.file) (g.R.Read.remaining l.file) (take l.len l.bytes);
}
