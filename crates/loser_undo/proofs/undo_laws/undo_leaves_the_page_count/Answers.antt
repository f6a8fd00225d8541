use Rattle.std.proofs.Common.{sym}
use Rattle.loser_undo.proofs.Pages.{undone_count}
use Rattle.loser_undo.proofs.undo_laws.undo_leaves_the_page_count.Goals as goal

pub returns : goal.returns
returns c = λ log. sym (undone_count log)
