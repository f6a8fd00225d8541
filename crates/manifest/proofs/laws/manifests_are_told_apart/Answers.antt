use Rattle.manifest.proofs.Apart.{told_apart}
use Rattle.manifest.proofs.laws.manifests_are_told_apart.Goals as goal

pub returns : goal.returns
returns c = told_apart
