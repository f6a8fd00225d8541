use Rattle.media_restore.proofs.Saved.{sound_of}
use Rattle.media_restore.proofs.saved_laws.saved_files_restore_what_was_committed.Goals as goal

pub returns : goal.returns
returns c = sound_of
