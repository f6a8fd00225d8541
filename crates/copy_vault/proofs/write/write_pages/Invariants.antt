use Rattle.std.proofs.Common.{◌≡◌, ◌+◌, ◌*◌, ◌≤◌, ◌++◌, ℕ, List, length, take}
use Rattle.std.specs.Io.KnownBytes.{Appends}
use Rattle.page_core.specs.Page.{volume_bytes}
use Rattle.page_decisions.specs.Decisions.{taken_pages}
use Rattle.copy_vault.proofs.write.write_pages.Given as goal

abbrev pub invariant-loop-number : goal.invariant-loop-number
invariant-loop-number g l = record {
  within : l.filled ≤ length l.buffer;
  small : l.done + l.filled ≤ 64 + 512 * l.number;
  sent : (sent : List ℕ) × ((length sent ≡ l.done)
      × (Appends (g.W.Write.contents l.fn.writer) (g.W.Write.contents l.writer) sent
      × (sent ++ take l.filled l.buffer
      ≡ take 64 l.fn.buffer ++ volume_bytes (taken_pages (take l.number l.slots)))));
}
