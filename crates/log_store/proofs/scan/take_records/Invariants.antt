use Rattle.std.proofs.Common.{ℕ, ◌+◌, ◌*◌, ◌++◌, List, take}
use Rattle.log_store.specs.Scan.{HasTaken}
use Rattle.log_store.proofs.scan.take_records.Given as goal

abbrev pub invariant-loop-i : goal.invariant-loop-i
invariant-loop-i g l = (given : List ℕ) → HasTaken g.S.RecordSink.holds l.format l.fn.sink l.fn.history l.count given
    → HasTaken g.S.RecordSink.holds l.format l.sink l.history (l.count + l.i) (given ++ take (64 * l.i) l.bytes)
