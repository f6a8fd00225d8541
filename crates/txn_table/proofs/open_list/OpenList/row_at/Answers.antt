use Rattle.std.proofs.Common.{◌≡◌, ◌∙◌, ◌<◌, ℕ, List, Option, Some, None, Bor, get_or, length, ap, sym, subst}
use Rattle.std.proofs.lemmas.Bool.{ltb-false, ltb-true}
use Rattle.std.proofs.lemmas.List.{get_or_default}
use Rattle.std.specs.Prelude.{IfSome, is_some, nat_lt, option_copied, slice_get}
use Rattle.txn_table.specs.declared.open_entry.OpenEntry.{OpenEntry}
use Rattle.txn_table.specs.declared.open_list.OpenList.{OpenList}
use Rattle.txn_table.specs.OpenList.{IsSound, entries_in}
use Rattle.txn_table.proofs.RowPlaces.{entry-on, no-entry-on}
use Rattle.txn_table.proofs.open_list.OpenList.row_at.Goals as goal

module _ (list : OpenList) (sound : IsSound list) (os : List ℕ) (place : ℕ) (same : os ≡ list.order.items) where
  here : (o : Option (Bor ℕ)) → is_some o ≡ nat_lt place (length os) → IfSome o (λ x. x.now ≡ get_or os place x.now)
      → IfSome (option_copied o) (λ row. (d : OpenEntry)
      → slice_get (entries_in list) place ≡ Some (get_or list.rows.items row d))
  here None there is = tt
  here (Some x) there is = λ d.
      let within : place < length os = ltb-true place (length os) (sym there) in
      entry-on list.order.items os list.rows.items list.taken place d sound same within
      ∙ ap (λ s. Some (get_or list.rows.items s d)) (sym (is ∙ get_or_default os place x.now 0 within))

  nobody : (o : Option (Bor ℕ)) → is_some o ≡ nat_lt place (length os) → option_copied o ≡ None
      → slice_get (entries_in list) place ≡ None
  nobody None there none =
      no-entry-on list.order.items os list.rows.items list.taken place sound same
      (ltb-false place (length os) (sym there))
  nobody (Some x) there none = absurd (cc)

pub returns-clause-there : goal.returns-clause-there
returns-clause-there c =
    subst (λ o. IfSome o (λ row. (d : OpenEntry)
    → slice_get (entries_in c.args.self.now) c.args.place ≡ Some (get_or c.args.self.now.rows.items row d)))
    (sym c.copied.ensures)
    (here c.args.self.now c.requires c.deref.result.now c.args.place c.deref.ensures.value c.get.result
    c.get.ensures.lookup.0 c.get.ensures.lookup.1)

pub returns-clause-none : goal.returns-clause-none
returns-clause-none c = λ none.
    nobody c.args.self.now c.requires c.deref.result.now c.args.place c.deref.ensures.value c.get.result
    c.get.ensures.lookup.0 (sym c.copied.ensures ∙ none)
