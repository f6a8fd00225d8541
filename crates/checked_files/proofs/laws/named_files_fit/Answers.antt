use Rattle.checked_files.proofs.Knowns.{named_fits}
use Rattle.checked_files.proofs.laws.named_files_fit.Goals as goal

pub returns : goal.returns
returns c file bytes few it = named_fits file bytes few it
