use Rattle.std.proofs.Common.{◌≡◌, ◌++◌, length}
use Rattle.manifest.specs.Entries.{IsManifest}
use Rattle.manifest.specs.Text.{manifest_text}
use Rattle.manifest.proofs.reading.decode.Given as goal

abbrev pub invariant-entries : goal.invariant-entries
invariant-entries l = record {
  manifest : IsManifest l.manifest;
  text : l.bytes ≡ manifest_text l.manifest ++ l.rest;
}

abbrev pub decreases-entries : goal.decreases-entries
decreases-entries l = length l.rest
