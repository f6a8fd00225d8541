use Rattle.std.proofs.Common.{◌≡◌, ℕ, ◌<◌, ◌++◌, List, take}
use Rattle.std.specs.Io.KnownBytes.{Consumes}
use Rattle.page_decisions.specs.Decisions.{taken_count}
use Rattle.copy_vault.specs.Archive.{header_bytes}
use Rattle.copy_vault.specs.ArchiveRead.{IsRead, given_for}
use Rattle.copy_vault.proofs.read.read_pages.Given as goal

abbrev pub invariant-loop : goal.invariant-loop
invariant-loop g l = record {
  short : l.filled < 512;
  last : taken_count l.slots ≡ l.header.taken → l.filled ≡ 0;
  so_far : IsRead l.header l.slots;
  found : (read : List ℕ) × ((given_for l.header l.slots ≡ header_bytes l.header ++ read)
      × Consumes (g.R.Read.remaining l.fn.reader) (g.R.Read.remaining l.reader) (read ++ take l.filled l.buffer));
}
