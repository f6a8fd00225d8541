use Rattle.std.proofs.Common.{◌≡◌, ◌-◌, length, map}
use Rattle.page_core.specs.PageCounts.{last_count}
use Rattle.copy_vault.specs.ChainEach.{points_of}
use Rattle.copy_audit.proofs.Rowwise.{HasListed}
use Rattle.copy_audit.proofs.all_pages.pages_in.Given as goal

abbrev pub invariant-rows : goal.invariant-rows
invariant-rows g l = record {
  listed : HasListed (map g.A.Read.remaining l.fn.archives) (map g.A.Read.remaining l.archives) l.fn.log l.chain
      (length l.row.items) l.number l.found;
  rows : length l.row.items ≡ length l.archives;
  points : l.points.items ≡ points_of l.chain;
  many : length l.archives ≡ length l.fn.archives;
}

abbrev pub decreases-rows : goal.decreases-rows
decreases-rows g l = last_count l.fn.log.counts - l.number
