use Rattle.std.proofs.Common.{take}
use Rattle.manifest.specs.Entries.{Lacks}
use Rattle.manifest.proofs.listing.place.Given as goal

abbrev pub invariant-loop-i : goal.invariant-loop-i
invariant-loop-i l = Lacks l.name (take l.i l.entries)
