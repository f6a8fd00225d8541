use Rattle.std.proofs.Common.{◌≡◌, ◌*◌, take}
use Rattle.page_core.specs.Page.{volume_bytes}
use Rattle.embed_calls.proofs.redo.put_pages.Given as goal

abbrev pub invariant-loop-i : goal.invariant-loop-i
invariant-loop-i l = record {
  bytes : take (512 * l.i) l.room ≡ volume_bytes (take l.i l.pages);
}
