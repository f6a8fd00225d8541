use Rattle.std.proofs.Common.{ap, ◌∙◌}
use Rattle.imgcopy.specs.Ends.{status_of_opened}
use Rattle.imgcopy.proofs.open.Goals as goal

pub returns : goal.returns
returns g c = λ some. c.open_folder.ensures (λ failed. some (c.status_of_open.ensures ∙ ap status_of_opened failed))
