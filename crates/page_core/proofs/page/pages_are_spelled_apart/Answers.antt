use Rattle.page_core.proofs.PageBytes.{pages_apart}
use Rattle.page_core.proofs.page.pages_are_spelled_apart.Goals as goal

pub returns : goal.returns
returns c = pages_apart
