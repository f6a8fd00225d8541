use Rattle.std.proofs.Common.{IsSome, take}
use Rattle.std.specs.List.{All}
use Rattle.file_inputs.specs.Manifests.{named_in}
use Rattle.file_inputs.proofs.manifests.Checks.compares.Given as goal

abbrev pub invariant-loop-name : goal.invariant-loop-name
invariant-loop-name l =
    All (λ name. IsSome (named_in l.self.expected.items name.now)) (take l.name-index l.files)
