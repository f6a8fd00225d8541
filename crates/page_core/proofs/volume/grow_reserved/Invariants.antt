use Rattle.std.proofs.Common.{◌≡◌, ◌≤◌, ◌-◌, length, vec_capacity, vec_len}
use Rattle.page_core.specs.Volume.{grown_to}
use Rattle.page_core.proofs.volume.grow_reserved.Given as goal

-- it has as many pages as the number of the next one, which is past the count only where the first was
abbrev pub invariant-loop-number : goal.invariant-loop-number
invariant-loop-number l = record {
  items : l.pages.items ≡ grown_to l.number l.fn.pages.items;
  len : vec_len l.pages ≡ l.number;
  room : vec_capacity l.pages ≡ vec_capacity l.fn.pages;
  from : length l.fn.pages.items ≤ l.number;
  within : l.number - length l.fn.pages.items ≤ l.count - length l.fn.pages.items;
}
