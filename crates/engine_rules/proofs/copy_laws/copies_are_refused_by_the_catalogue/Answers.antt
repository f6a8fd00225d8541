use Rattle.engine_rules.proofs.CopyRefusals.{drop_by_catalogue, full_by_catalogue, inc_by_catalogue}
use Rattle.engine_rules.proofs.CopyRefusals.{repair_by_catalogue, seal_by_catalogue, take_by_catalogue}
use Rattle.engine_rules.proofs.copy_laws.copies_are_refused_by_the_catalogue.Goals as goal

pub returns : goal.returns
returns c = record {
  full = full_by_catalogue;
  inc = inc_by_catalogue;
  take = take_by_catalogue;
  seal = seal_by_catalogue;
  drop = drop_by_catalogue;
  repair = repair_by_catalogue;
}
