use Rattle.std.proofs.Common.{◌≡◌, drop}
use Rattle.file_inputs.specs.Manifests.{manifest_in}
use Rattle.file_inputs.proofs.beside.manifest_among.Given as goal

abbrev pub invariant-loop-it : goal.invariant-loop-it
invariant-loop-it l = manifest_in (drop l.it-index l.found) l.folder ≡ manifest_in l.found l.folder
