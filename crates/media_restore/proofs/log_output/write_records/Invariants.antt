use Rattle.std.proofs.Common.{◌≡◌, ◌≤◌, ◌-◌, ◌*◌, length, take}
use Rattle.std.specs.Io.KnownBytes.{Appends}
use Rattle.std.specs.List.{flat_map}
use Rattle.log_records.specs.Record.{record_bytes}
use Rattle.media_restore.proofs.log_output.write_records.Given as goal

abbrev pub invariant-loop-first : goal.invariant-loop-first
invariant-loop-first g l = record {
  within : l.first ≤ length l.records;
  count : l.done ≡ length (flat_map record_bytes (take l.first l.records));
  small : l.done ≤ 64 * l.first;
  written : Appends (g.W.Write.contents l.fn.writer) (g.W.Write.contents l.writer)
      (flat_map record_bytes (take l.first l.records));
}

abbrev pub decreases-loop-first : goal.decreases-loop-first
decreases-loop-first g l = length l.records - l.first
