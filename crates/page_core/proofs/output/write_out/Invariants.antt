use Rattle.std.proofs.Common.{◌≤◌, ◌+◌, ◌-◌, ◌*◌, take, length}
use Rattle.std.specs.Io.KnownBytes.{Appends}
use Rattle.page_core.proofs.output.write_out.Given as goal

abbrev pub invariant-loop-done : goal.invariant-loop-done
invariant-loop-done g l = record {
  within : l.done ≤ length l.bytes;
  few : l.interruptions ≤ 16;
  written : Appends (g.W.Write.contents l.fn.writer) (g.W.Write.contents l.writer) (take l.done l.bytes);
}

abbrev pub decreases-loop-done : goal.decreases-loop-done
decreases-loop-done g l = 17 * (length l.bytes - l.done) + (16 - l.interruptions)
