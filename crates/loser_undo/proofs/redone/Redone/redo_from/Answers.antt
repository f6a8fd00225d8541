use Rattle.std.proofs.Common.{◌∙◌, List, length, map, sym, ap, subst}
use Rattle.std.proofs.lemmas.List.{length-map, with_items_is}
use Rattle.page_core.specs.declared.page.Page.{Page}
use Rattle.log_records.specs.Coverage.{resume}
use Rattle.loser_undo.specs.Recovery.{IsRedone, Recovery}
use Rattle.loser_undo.proofs.Resumed.{still_redone}
use Rattle.loser_undo.proofs.redone.Redone.redo_from.Goals as goal

pub invariant_of-self : goal.invariant_of-self
invariant_of-self g c =
    let it = c.self.inside in
    let whole : Recovery = record { log = it.log; master = it.master; pages = it.pages.items } in
    let redo = λ (page : Page). resume page it.log.records c.args.from in
    let pages = c.deref_mut.result.now in
    let made = c.redo_pages.ensures in
    let long = ap length made ∙ length-map pages redo ∙ c.deref_mut.ensures.len in
    subst (λ (ps : List Page). IsRedone (record { log = it.log; master = it.master; pages = ps }) it.losers)
    (sym (with_items_is it.pages c.redo_pages.new.pages long ∙ made ∙ ap (map redo) c.deref_mut.ensures.value))
    (still_redone whole it.losers c.args.from c.self.invariant)
