use Rattle.std.proofs.Common.{◌≡◌, ◌∙◌, ◌&&◌, Bool, Some, not, eqb, ap, get_or, sym}
use Rattle.std.proofs.lemmas.Bool.{and_from, and_right}
use Rattle.std.specs.List.{find}
use Rattle.std.specs.Option.{option_map}
use Rattle.txn_table.specs.declared.open_entry.OpenEntry.{OpenEntry}
use Rattle.txn_table.specs.OpenList.{entries_in}
use Rattle.slot_claims.specs.RowSet.{has_row}
use Rattle.txn_table.proofs.Firsts.{find-first, find-more, find-none}
use Rattle.slot_claims.proofs.Public.{has_row-no_rows}
use Rattle.txn_table.proofs.RowPlaces.{meets, met-all, own-row}
use Rattle.txn_table.proofs.open_list.OpenList.first_other.Goals as goal
use Rattle.txn_table.proofs.open_list.OpenList.first_other.Goals.{else-ne-via-then-ne+else-contains}
use Rattle.txn_table.proofs.open_list.OpenList.first_other.Goals.{else-ne-via-else-ne}

pub returns-then-is_empty : goal.returns-then-is_empty
returns-then-is_empty c =
    let list = c.args.self.now in
    ap (option_map (λ (e : OpenEntry). e.txn))
    (sym (find-none (λ e. not (eqb e.txn c.args.txn) && has_row c.args.rows e.row)
    (λ e. and_right (not (eqb e.txn c.args.txn)) (has_row c.args.rows e.row)
    (ap (λ s. has_row s e.row) (c.is_empty.ensures.empty.0 c.if-is_empty.true) ∙ has_row-no_rows e.row)) _))

pub returns-then-contains : goal.returns-then-contains
returns-then-contains c =
    let list = c.args.self.now in
    let x = c.index.result.now in
    let q : OpenEntry → Bool = λ e. not (eqb e.txn c.args.txn) && has_row c.args.rows e.row in
    let here = meets list.order.items c.deref-row-items.result.now list.rows.items list.taken c.loop-row.row-index x
    c.requires c.deref-row-items.ensures.value c.loop-row-test.true c.index.ensures in
    let own : x.row ≡ get_or c.deref-row-items.result.now c.loop-row.row-index 0 =
    own-row list.order.items c.deref-row-items.result.now list.rows.items list.taken c.loop-row.row-index x
    c.requires c.deref-row-items.ensures.value c.loop-row-test.true c.index.ensures in
    sym (ap (option_map (λ (e : OpenEntry). e.txn))
    (find-first q (entries_in list) c.loop-row.row-index x here.0 c.loop-row.invariant
    (ap q here.1 ∙ and_from (not (eqb x.txn c.args.txn)) (has_row c.args.rows x.row)
    (sym c.ne.ensures ∙ c.if-ne.true) (ap (has_row c.args.rows) own ∙ sym c.contains.ensures ∙ c.if-contains.true))
    ∙ ap Some here.1))

pub loop-row-preserved : goal.loop-row-preserved
loop-row-preserved c =
    let list = c.args.self.now in
    let x = c.index.result.now in
    let q : OpenEntry → Bool = λ e. not (eqb e.txn c.args.txn) && has_row c.args.rows e.row in
    let here = meets list.order.items c.deref-row-items.result.now list.rows.items list.taken c.loop-row.row-index x
    c.requires c.deref-row-items.ensures.value c.loop-row-test.true c.index.ensures in
    let own : x.row ≡ get_or c.deref-row-items.result.now c.loop-row.row-index 0 =
    own-row list.order.items c.deref-row-items.result.now list.rows.items list.taken c.loop-row.row-index x
    c.requires c.deref-row-items.ensures.value c.loop-row-test.true c.index.ensures in
    find-more q (entries_in list) c.loop-row.row-index x here.0 c.loop-row.invariant
    (ap q here.1 ∙ (elim c.else-ne.branch [
      | else-ne-via-then-ne+else-contains w ↦
          and_right (not (eqb x.txn c.args.txn)) (has_row c.args.rows x.row)
          (ap (has_row c.args.rows) own ∙ sym w.contains.ensures ∙ w.if-contains.false)
      | else-ne-via-else-ne w ↦
          ap (λ b. b && has_row c.args.rows x.row) (sym c.ne.ensures ∙ w.if-ne.false)
    ]))

pub returns : goal.returns
returns c =
    let list = c.args.self.now in
    ap (option_map (λ (e : OpenEntry). e.txn))
    (sym (ap (λ xs. find (λ e. not (eqb e.txn c.args.txn) && has_row c.args.rows e.row) xs)
    (sym (met-all list.order.items c.deref-row-items.result.now list.rows.items list.taken c.loop-row.row-index
    c.requires c.deref-row-items.ensures.value c.loop-row-test.false))
    ∙ c.loop-row.invariant))
