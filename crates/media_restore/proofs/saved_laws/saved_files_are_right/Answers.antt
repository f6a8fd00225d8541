use Rattle.media_restore.proofs.SavedFaults.{refused_outside}
use Rattle.media_restore.proofs.saved_laws.saved_files_are_right.Goals as goal

pub returns : goal.returns
returns c = refused_outside
