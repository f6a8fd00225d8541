use Rattle.std.proofs.Common.{◌≡◌, ◌≤◌, ◌-◌, length, map, take}
use Rattle.page_core.specs.PageCounts.{last_count}
use Rattle.copy_vault.specs.ChainReading.{IsReading}
use Rattle.copy_vault.proofs.chain_pages.read_chain_pages_into.Given as goal

abbrev pub invariant-pages : goal.invariant-pages
invariant-pages g l = record {
  reading : IsReading l.counts (map g.R.Read.remaining l.fn.readers) (map g.R.Read.remaining l.readers) l.chain
      (take l.given l.pages.items);
  within : l.given ≤ length l.pages.items;
  pages : l.chain.pages ≡ last_count l.counts;
  end : l.chain.end ≡ l.fn.end;
}

abbrev pub decreases-pages : goal.decreases-pages
decreases-pages g l = last_count l.counts - l.given
