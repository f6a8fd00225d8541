use Rattle.media_restore.proofs.Saved.{covering_of, parts_of}
use Rattle.media_restore.proofs.saved_laws.what_is_left_can_be_saved.Goals as goal

pub returns-clause-parts : goal.returns-clause-parts
returns-clause-parts c = parts_of

pub returns-clause-covering : goal.returns-clause-covering
returns-clause-covering c = covering_of
