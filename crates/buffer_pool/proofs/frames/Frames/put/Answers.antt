use Rattle.std.proofs.Common.{◌∙◌, ◌++◌, ◌∷◌, [], ap, length, subst, sym}
use Rattle.std.specs.Prelude.{Some}
use Rattle.page_core.specs.declared.page.Page.{Page}
use Rattle.buffer_pool.specs.Frames.{FramesView}
use Rattle.buffer_pool.specs.Marks.{IsPassed}
use Rattle.buffer_pool.specs.Slots.{pages_in}
use Rattle.buffer_pool.proofs.Holes.{pages_more}
use Rattle.buffer_pool.proofs.Sought.{sought_more}
use Rattle.buffer_pool.proofs.frames.Frames.put.Goals as goal

pub returns-clause-pages : goal.returns-clause-pages
returns-clause-pages c =
    let slots = c.self.inside.slots.list in
    ap pages_in (c.push.ensures ∙ ap (λ (q : Page). slots ++ Some q ∷ []) c.hold.ensures)
    ∙ pages_more slots c.args.page
    ∙ ap (λ (v : FramesView). v.pages ++ c.args.page ∷ []) c.self.view_is

pub returns-clause-sought : goal.returns-clause-sought
returns-clause-sought c = λ clean sought.
    let view = c.self.view_is in
    sought_more clean c.args.self.now.slots c.push.new.self.list (Some c.hold.new.self) c.args.self.now.marks
    c.set.new.self
    (c.push.ensures ∙ ap (λ (v : FramesView). v.slots ++ Some c.hold.new.self ∷ []) view)
    sought
    (λ k passed.
    let it = c.set.ensures k passed in (
      subst (λ (v : FramesView). IsPassed v.marks k) view it.0,
      λ same. it.1 (same ∙ sym (ap (λ (v : FramesView). length v.slots) view) ∙ sym c.len.ensures),
    ))
