use Rattle.std.proofs.Common.{◌≡◌, drop}
use Rattle.checked_files.specs.Expected.{sum_of}
use Rattle.file_inputs.proofs.manifests.Checks.named.Given as goal

abbrev pub invariant-loop-it : goal.invariant-loop-it
invariant-loop-it l = sum_of l.name (drop l.it-index l.it-items) ≡ sum_of l.name l.self.expected.items
