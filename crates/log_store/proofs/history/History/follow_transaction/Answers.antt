use Rattle.std.proofs.Common.{[], ◌∷◌, ◌∙◌, sym, ap, subst, length}
use Rattle.std.proofs.lemmas.List.{with_items_is, length-map}
use Rattle.log_records.specs.Image.{AreNumbered, with_record}
use Rattle.log_records.proofs.Public.{numbered-images}
use Rattle.log_store.proofs.history.History.follow_transaction.Goals as goal

pub invariant_of-self-2 : goal.invariant_of-self-2
invariant_of-self-2 c =
    let r = c.args.next.now in
    let pages = c.deref_mut.result.now in
    let made = c.redo_on_its_page.ensures in
    let long = ap length made ∙ length-map pages (λ page. with_record page r) ∙ c.deref_mut.ensures.len in
    subst AreNumbered (sym (with_items_is c.self.inside.pages c.redo_on_its_page.new.pages long ∙ made))
    (numbered-images pages (r ∷ []) (subst AreNumbered (sym c.deref_mut.ensures.value) c.self.invariant))
