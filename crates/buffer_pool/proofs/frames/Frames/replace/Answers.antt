use Rattle.std.proofs.Common.{◌∙◌, List, ap}
use Rattle.page_core.specs.declared.page.Page.{Page}
use Rattle.buffer_pool.specs.Frames.{given_up, is_resident}
use Rattle.buffer_pool.specs.Pool.{is_clean_in}
use Rattle.buffer_pool.proofs.Holes.{absent_less}
use Rattle.buffer_pool.proofs.frames.Frames.replace.Goals as goal

pub put-requires-clause-absent : goal.put-requires-clause-absent
put-requires-clause-absent c =
    let clean = is_clean_in c.args.states.now in
    ap (λ (pages : List Page). is_resident pages c.args.page.number) c.give_up-given_up.ensures.pages
    ∙ ap (λ (pages : List Page). is_resident (given_up clean pages) c.args.page.number) c.limit_holes.ensures.pages
    ∙ absent_less clean c.args.self.now.pages c.args.page.number c.requires.absent
