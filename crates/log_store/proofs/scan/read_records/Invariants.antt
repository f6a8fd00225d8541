use Rattle.std.proofs.Common.{◌≡◌, ℕ, ◌<◌, ◌≤◌, ◌++◌, List, take}
use Rattle.std.specs.Io.KnownBytes.{Consumes}
use Rattle.log_store.specs.Scan.{HasTaken}
use Rattle.log_store.proofs.scan.read_records.Given as goal

abbrev pub invariant-loop : goal.invariant-loop
invariant-loop g l = record {
  short : l.filled < 64;
  few : 1048576 ≤ l.count → l.filled ≡ 0;
  so_far : (given : List ℕ) → HasTaken g.S.RecordSink.holds l.format l.fn.scan.sink l.fn.scan.history 0 given
      → (read : List ℕ) × (HasTaken g.S.RecordSink.holds l.format l.scan.sink l.scan.history l.count (given ++ read)
      × Consumes (g.R.Read.remaining l.fn.reader) (g.R.Read.remaining l.reader) (read ++ take l.filled l.buffer));
}
