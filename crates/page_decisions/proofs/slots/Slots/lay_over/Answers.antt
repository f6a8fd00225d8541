use Rattle.std.proofs.Common.{◌∙◌, List, map, sym, ap, subst}
use Rattle.std.specs.declared.alloc.Global.{Global}
use Rattle.std.specs.declared.boxed.Box.{Box}
use Rattle.page_core.specs.declared.page.Page.{Page}
use Rattle.page_decisions.specs.Decisions.{PageDecision}
use Rattle.page_decisions.specs.Slots.{AreLaidOver, decisions_by, laid, page_list, values}
use Rattle.page_decisions.proofs.Laid.{laid_over}
use Rattle.std.specs.Vec.{vec_capacity}
use Rattle.page_decisions.proofs.Marks.{marked_all}
use Rattle.page_decisions.proofs.slots.Slots.lay_over.Goals as goal

pub returns : goal.returns
returns c =
    let it = c.self.inside in
    let pages = values it.places.items in
    let ds = decisions_by pages it.marks.items in
    let old = map page_list c.args.pages.now in
    let made = c.lay_over.ensures
    ∙ ap (λ (boxes : List (Box Page Global)). laid (values boxes) old) c.deref.ensures.value in
    subst (λ (ds : List PageDecision). AreLaidOver ds old (map page_list c.lay_over.new.pages)) c.self.view_is
    (subst (AreLaidOver ds old) (sym made) (laid_over ds pages old c.self.invariant.stands
    (λ p page e. marked_all it.marks.items pages it.left (vec_capacity it.places) p page c.self.invariant e)))
