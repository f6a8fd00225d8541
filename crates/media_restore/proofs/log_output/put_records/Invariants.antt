use Rattle.std.proofs.Common.{◌≡◌, ◌*◌, length, take}
use Rattle.std.specs.List.{flat_map}
use Rattle.log_records.specs.Record.{record_bytes}
use Rattle.media_restore.proofs.log_output.put_records.Given as goal

abbrev pub invariant-loop-i : goal.invariant-loop-i
invariant-loop-i l = record {
  bytes : take (64 * l.i) l.buffer ≡ flat_map record_bytes (take l.i l.records);
  count : length (flat_map record_bytes (take l.i l.records)) ≡ 64 * l.i;
}
