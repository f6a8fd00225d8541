use Rattle.std.proofs.Common.{sym, subst, ap, ◌∙◌, arith}
use Rattle.page_core.specs.Volume.{AreNumbered, grown_to}
use Rattle.page_core.proofs.Volumes.{new_grown, numbered-formatted_pages}
use Rattle.page_core.proofs.volume.formatted_pages.Goals as goal

pub returns-clause-formatted : goal.returns-clause-formatted
returns-clause-formatted c =
    c.grow_reserved.ensures.grown
    ∙ ap (grown_to c.args.count) c.in_ok-pages.ensures.items
    ∙ new_grown 0 c.args.count (omega arith)

pub returns-clause-numbered : goal.returns-clause-numbered
returns-clause-numbered c =
    c.grow_reserved.ensures.numbered
    (subst AreNumbered (sym c.in_ok-pages.ensures.items) (numbered-formatted_pages 0))
