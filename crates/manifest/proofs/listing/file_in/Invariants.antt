use Rattle.std.proofs.Common.{◌≡◌, drop}
use Rattle.manifest.specs.Entries.{file_of}
use Rattle.manifest.proofs.listing.file_in.Given as goal

abbrev pub invariant-loop-entry : goal.invariant-loop-entry
invariant-loop-entry l = file_of l.name (drop l.entry-index l.entries) ≡ file_of l.name l.entries
