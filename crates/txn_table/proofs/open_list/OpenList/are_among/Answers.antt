use Rattle.std.proofs.Common.{◌<◌, Contains, All, refl, sym, subst}
use Rattle.std.proofs.lemmas.List.Elements.{All-more}
use Rattle.txn_table.specs.declared.open_entry.OpenEntry.{OpenEntry}
use Rattle.txn_table.specs.OpenList.{entries_in}
use Rattle.txn_table.proofs.RowPlaces.{meets, met-all}
use Rattle.txn_table.proofs.open_list.OpenList.are_among.Goals as goal

pub loop-row-preserved : goal.loop-row-preserved
loop-row-preserved c =
    let list = c.args.self.now in
    let x = c.index.result.now in
    let P : OpenEntry → Type 0 = λ e. e.first < c.args.lsn → Contains c.args.txns.now e.txn in
    let here = meets list.order.items c.deref-row-items.result.now list.rows.items list.taken c.loop-row.row-index x
    c.requires c.deref-row-items.ensures.value c.loop-row-test.true c.index.ensures in
    All-more P (entries_in list) c.loop-row.row-index x here.0 c.loop-row.invariant
    (subst P (sym here.1) (c.is_listed.ensures.0 c.if-not-is_listed.false))

pub returns : goal.returns
returns c =
    let list = c.args.self.now in
    let P : OpenEntry → Type 0 = λ e. e.first < c.args.lsn → Contains c.args.txns.now e.txn in (
      λ yes. subst (All P)
          (met-all list.order.items c.deref-row-items.result.now list.rows.items list.taken c.loop-row.row-index
          c.requires c.deref-row-items.ensures.value c.loop-row-test.false)
          c.loop-row.invariant,
      λ all. refl,
    )

pub returns-then-not-is_listed : goal.returns-then-not-is_listed
returns-then-not-is_listed c =
    let list = c.args.self.now in
    let x = c.index.result.now in
    let P : OpenEntry → Type 0 = λ e. e.first < c.args.lsn → Contains c.args.txns.now e.txn in
    let here = meets list.order.items c.deref-row-items.result.now list.rows.items list.taken c.loop-row.row-index x
    c.requires c.deref-row-items.ensures.value c.loop-row-test.true c.index.ensures in (
      λ yes. cc,
      λ all. c.if-not-is_listed.ensures.1 (subst P here.1 (all c.loop-row.row-index x here.0)),
    )
