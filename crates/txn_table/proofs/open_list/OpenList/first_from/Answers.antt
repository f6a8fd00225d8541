use Rattle.std.proofs.Common.{◌∙◌, ◌<◌, Some, ap, get_or, length, sym}
use Rattle.std.proofs.lemmas.List.{get_or_default}
use lib.Dec.{leb}
use Rattle.std.specs.List.{find}
use Rattle.txn_table.specs.declared.open_entry.OpenEntry.{OpenEntry}
use Rattle.txn_table.specs.OpenList.{entries_in}
use Rattle.txn_table.proofs.Firsts.{find-first, find-more}
use Rattle.txn_table.proofs.RowPlaces.{below-rows, ge-leb, meets, met-all}
use Rattle.txn_table.proofs.open_list.OpenList.first_from.Goals as goal

pub returns-then-ge-clause-first : goal.returns-then-ge-clause-first
returns-then-ge-clause-first c = λ d.
    let list = c.args.self.now in
    let x = c.index.result.now in
    let here = meets list.order.items c.deref-row-items.result.now list.rows.items list.taken c.loop-row.row-index x
    c.requires c.deref-row-items.ensures.value c.loop-row-test.true c.index.ensures in
    let row = get_or c.deref-row-items.result.now c.loop-row.row-index 0 in
    let below : row < length list.rows.items =
    below-rows list.order.items c.deref-row-items.result.now list.rows.items list.taken c.loop-row.row-index
    c.requires c.deref-row-items.ensures.value c.loop-row-test.true in
    find-first (λ e. leb c.args.from e.txn) (entries_in list) c.loop-row.row-index x here.0 c.loop-row.invariant
    (ap (λ (e : OpenEntry). leb c.args.from e.txn) here.1 ∙ sym (ge-leb x.txn c.args.from) ∙ sym c.ge.ensures
    ∙ c.if-ge.true)
    ∙ ap Some (here.1 ∙ c.index.ensures ∙ get_or_default list.rows.items row x d below)

pub loop-row-preserved : goal.loop-row-preserved
loop-row-preserved c =
    let list = c.args.self.now in
    let x = c.index.result.now in
    let here = meets list.order.items c.deref-row-items.result.now list.rows.items list.taken c.loop-row.row-index x
    c.requires c.deref-row-items.ensures.value c.loop-row-test.true c.index.ensures in
    find-more (λ e. leb c.args.from e.txn) (entries_in list) c.loop-row.row-index x here.0 c.loop-row.invariant
    (ap (λ (e : OpenEntry). leb c.args.from e.txn) here.1 ∙ sym (ge-leb x.txn c.args.from) ∙ sym c.ge.ensures
    ∙ c.if-ge.false)

pub returns-clause-none : goal.returns-clause-none
returns-clause-none c = λ none.
    let list = c.args.self.now in
    ap (λ xs. find (λ e. leb c.args.from e.txn) xs)
    (sym (met-all list.order.items c.deref-row-items.result.now list.rows.items list.taken c.loop-row.row-index
    c.requires c.deref-row-items.ensures.value c.loop-row-test.false))
    ∙ c.loop-row.invariant
