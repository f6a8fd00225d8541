use Rattle.engine_rules.proofs.Runs.{unsure_commit}
use Rattle.engine_rules.proofs.laws.an_unsure_commit_ends_its_transaction.Goals as goal

pub returns : goal.returns
returns c = unsure_commit
