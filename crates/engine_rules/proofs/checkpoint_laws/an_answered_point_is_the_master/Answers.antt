use Rattle.engine_rules.proofs.CkptLaws.{point_is_master}
use Rattle.engine_rules.proofs.checkpoint_laws.an_answered_point_is_the_master.Goals as goal

pub returns : goal.returns
returns c = point_is_master
