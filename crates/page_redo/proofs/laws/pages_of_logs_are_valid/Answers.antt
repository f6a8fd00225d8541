use Rattle.page_redo.proofs.Valid.{valid-redo_all}
use Rattle.page_redo.proofs.laws.pages_of_logs_are_valid.Goals as goal

pub returns : goal.returns
returns c = valid-redo_all
