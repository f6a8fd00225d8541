use Rattle.engine_rules.proofs.Runs.{refused_same}
use Rattle.engine_rules.proofs.laws.a_refusal_changes_nothing.Goals as goal

pub returns : goal.returns
returns c = refused_same
