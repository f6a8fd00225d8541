use Rattle.page_core.proofs.PageBytes.{same_pages}
use Rattle.page_core.proofs.page.volumes_are_spelled_apart.Goals as goal

pub returns : goal.returns
returns c = same_pages
