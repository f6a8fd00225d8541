use Rattle.std.proofs.Common.{◌≡◌, ◌*◌, take}
use Rattle.std.specs.List.{flat_map}
use Rattle.log_records.specs.Record.{record_bytes}
use Rattle.embed_calls.proofs.recover.put_records.Given as goal

abbrev pub invariant-loop-i : goal.invariant-loop-i
invariant-loop-i l = record {
  bytes : take (64 * l.i) l.room ≡ flat_map record_bytes (take l.i l.records);
}
