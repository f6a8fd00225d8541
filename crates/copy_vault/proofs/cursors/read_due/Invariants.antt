use Rattle.std.proofs.Common.{◌≡◌, ℕ, List, map, Option}
use Rattle.copy_vault.specs.declared.header.ArchiveHeader.{ArchiveHeader}
use Rattle.copy_vault.specs.ChainRead.{AreRead, AreReadOn}
use Rattle.copy_vault.specs.ChainReading.{heads_of}
use Rattle.copy_vault.specs.Copy.{CopyView}
use Rattle.copy_vault.proofs.cursors.read_due.Given as goal

abbrev pub invariant-loop-i : goal.invariant-loop-i
invariant-loop-i g l = record {
  on : (heads : List ArchiveHeader) (inputs : List (Option (List ℕ))) (copies : List CopyView)
      → AreRead l.end l.next 0 heads inputs (map g.R.Read.remaining l.fn.readers) l.fn.cursors copies
      → AreReadOn l.end l.next l.i l.next heads inputs (map g.R.Read.remaining l.readers) l.cursors copies;
  heads : heads_of l.cursors ≡ heads_of l.fn.cursors;
}
