use Rattle.page_core.proofs.Volumes.{new_grown}
use Rattle.page_core.proofs.volume.new_volumes_grow_to_new_ones.Goals as goal

pub returns : goal.returns
returns c = new_grown
