use Rattle.file_view.proofs.Apart.{apart}
use Rattle.file_view.proofs.laws.lines_are_told_apart.Goals as goal

pub returns : goal.returns
returns c = apart
