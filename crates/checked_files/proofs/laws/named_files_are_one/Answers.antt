use Rattle.manifest.specs.Checking.{part_of}
use Rattle.manifest.proofs.Public.{at_hand}
use Rattle.checked_files.proofs.laws.named_files_are_one.Goals as goal

pub returns : goal.returns
returns c file made found is_made is_found differ =
    at_hand file.sum file.bytes (part_of file made) (part_of file found) is_made is_found differ
