use Rattle.std.proofs.Common.{◌∙◌, ap, map, subst, sym}
use Rattle.log_records.specs.Image.{with_record}
use Rattle.buffer_pool.specs.Frames.{FramesView, IsSought}
use Rattle.buffer_pool.specs.Slots.{pages_in}
use Rattle.buffer_pool.proofs.Placed.{pages_redone}
use Rattle.buffer_pool.proofs.Sought.{sought_redone}
use Rattle.buffer_pool.proofs.frames.Frames.redo.Goals as goal

pub returns-clause-pages : goal.returns-clause-pages
returns-clause-pages c =
    let next = c.args.next.now in
    ap pages_in c.redo.ensures.list ∙ pages_redone next c.self.inside.slots.list
    ∙ ap (λ (v : FramesView). map (λ page. with_record page next) v.pages) c.self.view_is

pub returns-clause-sought : goal.returns-clause-sought
returns-clause-sought c = λ clean sought.
    sought_redone clean c.args.next.now c.self.inside.slots.list c.redo.new.self.list c.self.inside.marks
    c.redo.ensures.list (subst (IsSought clean) (sym c.self.view_is) sought)
