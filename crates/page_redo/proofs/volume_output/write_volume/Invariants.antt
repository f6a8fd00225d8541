use Rattle.std.proofs.Common.{◌≡◌, ◌≤◌, ◌-◌, ◌*◌, length, take}
use Rattle.std.specs.Io.KnownBytes.{Appends}
use Rattle.page_core.specs.Page.{volume_bytes}
use Rattle.page_redo.proofs.volume_output.write_volume.Given as goal

abbrev pub invariant-loop-first : goal.invariant-loop-first
invariant-loop-first g l = record {
  within : l.first ≤ length l.pages;
  count : l.done ≡ length (volume_bytes (take l.first l.pages));
  small : l.done ≤ 512 * l.first;
  written : Appends (g.W.Write.contents l.fn.writer) (g.W.Write.contents l.writer)
      (volume_bytes (take l.first l.pages));
}

abbrev pub decreases-loop-first : goal.decreases-loop-first
decreases-loop-first g l = length l.pages - l.first
