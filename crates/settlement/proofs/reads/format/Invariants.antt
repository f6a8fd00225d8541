use Rattle.std.proofs.Common.{◌≡◌, length, take}
use Rattle.page_core.specs.Volume.{formatted_pages}
use Rattle.settlement.proofs.reads.format.Given as goal

-- the pages below `i` are formatted
abbrev pub invariant-loop-i : goal.invariant-loop-i
invariant-loop-i l = (length l.pages ≡ length l.initial.pages) × (take l.i l.pages ≡ formatted_pages l.i)
