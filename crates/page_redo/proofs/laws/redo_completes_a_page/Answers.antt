use Rattle.page_redo.proofs.Covering.{redo_completes}
use Rattle.page_redo.proofs.laws.redo_completes_a_page.Goals as goal

pub returns : goal.returns
returns c = redo_completes
