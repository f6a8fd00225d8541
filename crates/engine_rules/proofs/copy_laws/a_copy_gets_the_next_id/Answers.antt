use Rattle.copy_vault.specs.declared.copy_id.CopyKind.TheVariants.{Full, Inc}
use Rattle.engine_rules.proofs.Catalogues.{next_id}
use Rattle.engine_rules.proofs.copy_laws.a_copy_gets_the_next_id.Goals as goal

pub returns : goal.returns
returns c = record {
  full = λ old id new step. next_id old Full id step.1;
  inc = λ old parent id new step. next_id old (Inc parent) id step.1;
}
