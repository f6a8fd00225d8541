use Rattle.std.proofs.Common.{◌≡◌, ◌*◌, ◌++◌, take}
use Rattle.copy_vault.specs.ArchiveRead.{IsRead, given_for}
use Rattle.copy_vault.proofs.read.take_pages.Given as goal

abbrev pub invariant-loop-i : goal.invariant-loop-i
invariant-loop-i l = record {
  so_far : IsRead l.header l.slots;
  given : given_for l.header l.slots ≡ given_for l.header l.fn.slots ++ take (512 * l.i) l.bytes;
}
