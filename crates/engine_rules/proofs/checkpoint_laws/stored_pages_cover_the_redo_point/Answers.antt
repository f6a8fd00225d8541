use Rattle.engine_rules.proofs.CkptLaws.{redo_is_covered}
use Rattle.engine_rules.proofs.checkpoint_laws.stored_pages_cover_the_redo_point.Goals as goal

pub returns : goal.returns
returns c = redo_is_covered
