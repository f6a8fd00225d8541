use Rattle.file_inputs.specs.Manifests.{ArePlaced}
use Rattle.file_inputs.proofs.manifests.Checks.look_beside.Given as goal

abbrev pub invariant-loop-place : goal.invariant-loop-place
invariant-loop-place l = ArePlaced l.names l.fn.self → ArePlaced l.names l.self
