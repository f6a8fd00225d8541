use Rattle.std.proofs.Common.{◌≡◌, ◌*◌, length, take}
use Rattle.page_core.specs.Page.{volume_bytes}
use Rattle.page_redo.proofs.volume_output.put_pages.Given as goal

abbrev pub invariant-loop-i : goal.invariant-loop-i
invariant-loop-i l = record {
  bytes : take (512 * l.i) l.buffer ≡ volume_bytes (take l.i l.pages);
  count : length (volume_bytes (take l.i l.pages)) ≡ 512 * l.i;
}
