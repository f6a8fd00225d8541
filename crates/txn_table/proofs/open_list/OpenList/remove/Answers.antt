use Rattle.std.proofs.Common.{◌≡◌, ◌∙◌, Some, None, ap, eqb, sym}
use Rattle.std.specs.List.{position, remove}
use Rattle.txn_table.proofs.RowPlaces.{must-stand, one-place, in_rows-remove}
use Rattle.txn_table.proofs.open_list.OpenList.remove.Goals as goal

pub returns-in-Some-clause-sound : goal.returns-in-Some-clause-sound
returns-in-Some-clause-sound c =
    let list = c.args.self.now in
    let sits = c.requires.sits.1 in
    let found : Some c.in-Some.place ≡ position (λ s. eqb s c.args.row) list.order.items =
    sym c.in-Some.is ∙ c.place_of.ensures ∙ ap (position (λ s. eqb s c.args.row)) c.deref.ensures.value in
    let at = one-place list.order.items list.rows.items list.taken c.args.row c.in-Some.place sits.place
    c.requires.sound found sits.within sits.row_is in
    rw c.remove.ensures.items
    (in_rows-remove list.order.items list.rows.items list.taken c.with-self.result c.in-Some.place c.args.row
    c.requires.sound at.0 at.1 c.with-self.ensures)

pub returns-in-Some-clause-order : goal.returns-in-Some-clause-order
returns-in-Some-clause-order c = λ place lt is.
    let list = c.args.self.now in
    let found : Some c.in-Some.place ≡ position (λ s. eqb s c.args.row) list.order.items =
    sym c.in-Some.is ∙ c.place_of.ensures ∙ ap (position (λ s. eqb s c.args.row)) c.deref.ensures.value in
    let at = one-place list.order.items list.rows.items list.taken c.args.row c.in-Some.place place c.requires.sound
    found lt is in
    c.remove.ensures.items ∙ ap (remove list.order.items) at.2

pub returns-in-None-clause-sound : goal.returns-in-None-clause-sound
returns-in-None-clause-sound c =
    let list = c.args.self.now in
    let sits = c.requires.sits.1 in
    let none : None ≡ position (λ s. eqb s c.args.row) list.order.items =
    sym c.in-None.is ∙ c.place_of.ensures ∙ ap (position (λ s. eqb s c.args.row)) c.deref.ensures.value in
    absurd (must-stand list.order.items c.args.row sits.place sits.within sits.row_is none)

pub returns-in-None-clause-order : goal.returns-in-None-clause-order
returns-in-None-clause-order c =
    let list = c.args.self.now in
    let sits = c.requires.sits.1 in
    let none : None ≡ position (λ s. eqb s c.args.row) list.order.items =
    sym c.in-None.is ∙ c.place_of.ensures ∙ ap (position (λ s. eqb s c.args.row)) c.deref.ensures.value in
    absurd (must-stand list.order.items c.args.row sits.place sits.within sits.row_is none)
