use Rattle.file_view.proofs.Apart.{listings_apart}
use Rattle.file_view.proofs.laws.listings_are_told_apart.Goals as goal

pub returns : goal.returns
returns c = listings_apart
