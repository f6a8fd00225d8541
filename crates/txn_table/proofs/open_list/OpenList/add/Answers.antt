use Rattle.std.proofs.Common.{◌≡◌, ◌++◌, ◌∷◌, [], ap, sym, subst, arith, ◌∙◌}
use Rattle.std.proofs.lemmas.Grind.{common_steps}
use Rattle.txn_table.specs.OpenList.{IsInRow, entries_of}
use Rattle.txn_table.proofs.RowPlaces.{entries-add, lacks-one, length-entries, next-row, nobody-on, on-row}
use Rattle.txn_table.proofs.RowPlaces.{in_rows-add}
use Rattle.txn_table.proofs.open_list.OpenList.add.Goals as goal

pub first_absent-row-requires : goal.first_absent-row-requires
first_absent-row-requires c =
    let list = c.args.self.now in
    lacks-one list.order.items list.rows.items list.taken c.requires.sound
    (omega (arith, c.requires.room, length-entries list.order.items list.rows.items c.requires.sound.there))

pub returns-clause-sound : goal.returns-clause-sound
returns-clause-sound c =
    let list = c.args.self.now in
    let s = c.first_absent-row.result in
    let sound = c.requires.sound in
    let says = c.first_absent-row.ensures in
    let took = c.in_ok-take_row.ensures.ok in
    let on = on-row list.rows.items c.take_row.new.rows.items s took.entry sound.few says.within
    (next-row list.order.items list.rows.items list.taken s sound says.within says.below) took.rows in
    let items : c.push.new.self.items ≡ list.order.items ++ s ∷ [] = grind (arith, common_steps) in
    subst (λ os. IsInRow os c.take_row.new.rows.items c.with-self.result) (sym items)
    (in_rows-add list.order.items list.rows.items c.take_row.new.rows.items list.taken s
    took.entry sound says.absent on
    c.with-self.result took.begun.row_is c.with-self.ensures says.within)

pub returns-clause-ok : goal.returns-clause-ok
returns-clause-ok c =
    let list = c.args.self.now in
    let s = c.first_absent-row.result in
    let sound = c.requires.sound in
    let says = c.first_absent-row.ensures in
    let took = c.in_ok-take_row.ensures.ok in
    let on = on-row list.rows.items c.take_row.new.rows.items s took.entry sound.few says.within
    (next-row list.order.items list.rows.items list.taken s sound says.within says.below) took.rows in
    let items : c.push.new.self.items ≡ list.order.items ++ s ∷ [] = grind (arith, common_steps) in
    record {
      row = s;
      entry = took.entry;
      begun = took.begun;
      within = says.within;
      free = nobody-on list.order.items list.rows.items list.taken s sound says.absent;
      entries = ap (λ os. entries_of os c.take_row.new.rows.items) items
          ∙ entries-add list.order.items list.rows.items c.take_row.new.rows.items list.taken s took.entry sound
          says.absent on;
    }
