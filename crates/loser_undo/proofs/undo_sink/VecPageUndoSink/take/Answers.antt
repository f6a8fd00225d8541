use Rattle.std.proofs.Common.{◌∙◌, ap, length, List, map, subst, sym}
use Rattle.std.proofs.lemmas.List.{length-map, with_items_is}
use Rattle.page_core.specs.declared.page.Page.{Page}
use Rattle.log_records.specs.Image.{AreNumbered, with_record}
use Rattle.log_records.specs.Log.{IsWithin}
use Rattle.loser_undo.proofs.Undoing.{next_redone, next_within, still_numbered}
use Rattle.loser_undo.proofs.undo_sink.VecPageUndoSink.take.Goals as goal

pub redo_on_its_page-requires-clause-within : goal.redo_on_its_page-requires-clause-within
redo_on_its_page-requires-clause-within c =
    let to = c.requires in
    subst (λ (ps : List Page). IsWithin (length ps) c.args.next.now) (sym c.deref_mut.ensures.value)
    (next_within to.1.0 to.0.items to.1.1.0 c.args.self.now.items to.1.1.1.0 c.args.next.now to.1.1.1.1)

pub redo_on_its_page-requires-clause-numbered : goal.redo_on_its_page-requires-clause-numbered
redo_on_its_page-requires-clause-numbered c =
    let to = c.requires in
    subst AreNumbered (sym c.deref_mut.ensures.value)
    (still_numbered to.1.0 to.0.items to.1.1.0 c.args.self.now.items to.1.1.1.0)

pub returns : goal.returns
returns c = λ start log behind is come.
    let r = c.args.next.now in
    let redone = c.redo_on_its_page.ensures
    ∙ ap (map (λ (page : Page). with_record page r)) c.deref_mut.ensures.value in
    let long = ap length c.redo_on_its_page.ensures
    ∙ length-map c.deref_mut.result.now (λ page. with_record page r) ∙ c.deref_mut.ensures.len in
    next_redone log start.items behind c.args.self.now.items is r _
    (with_items_is c.args.self.now c.redo_on_its_page.new.pages long ∙ redone)
