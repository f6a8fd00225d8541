use Rattle.std.proofs.Common.{◌∙◌, List, map, sym, ap, subst}
use Rattle.std.specs.declared.alloc.Global.{Global}
use Rattle.std.specs.declared.boxed.Box.{Box}
use Rattle.page_core.specs.declared.page.Page.{Page}
use Rattle.page_decisions.specs.Decisions.{PageDecision}
use Rattle.page_decisions.specs.Slots.{AreLaidOver, decisions_of, laid, page_list, values}
use Rattle.page_decisions.proofs.Laid.{laid_over}
use Rattle.page_decisions.proofs.InOrder.{rising_all, rising_taken}
use Rattle.page_decisions.proofs.rising.RisingPages.lay_over.Goals as goal

pub returns : goal.returns
returns c =
    let it = c.self.inside in
    let pages = values it.places.items in
    let ds = decisions_of pages it.count in
    let old = map page_list c.args.pages.now in
    let made = c.lay_over.ensures
    ∙ ap (λ (boxes : List (Box Page Global)). laid (values boxes) old) c.deref.ensures.value in
    subst (λ (ds : List PageDecision). AreLaidOver ds old (map page_list c.lay_over.new.pages)) c.self.view_is
    (subst (AreLaidOver ds old) (sym made) (laid_over ds pages old (rising_taken pages it.count c.self.invariant)
    (λ p page e. rising_all pages it.count p page e)))
