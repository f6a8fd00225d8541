use Rattle.std.proofs.Common.{◌∙◌, ap, sym, subst, arith, length}
use Rattle.settlement.specs.Receipt.{HoldsAsRead, WasRead, position}
use Rattle.settlement.proofs.Below.{shown_below}
use Rattle.settlement.proofs.reads.check_read.Goals as goal

pub returns-then-number_on-number-clause-err : goal.returns-then-number_on-number-clause-err
returns-then-number_on-number-clause-err c =
    let rs = c.args.records.now in
    let n = length c.args.pages.now in
    let r = c.in-Read.read in (
      ap position c.in-Read.is,
      λ holds.
          let read : WasRead rs r.end r.page r.slot r.number = subst (HoldsAsRead rs) c.in-Read.is holds in
          let shown = shown_below n r.end r.page r.slot c.redo_below-count.result
          c.number_on.result rs c.redo_below-count.new.pages c.requires.log c.redo_below-count.ensures.count
          c.redo_below-count.ensures.redone c.number_on.ensures in
          c.if-number_on-number.true (shown ∙ sym read.read),
    )

pub returns-clause-ok : goal.returns-clause-ok
returns-clause-ok c =
    let rs = c.args.records.now in
    let n = length c.args.pages.now in
    let r = c.in-Read.read in
    let shown = shown_below n r.end r.page r.slot c.redo_below-count.result
    c.number_on.result rs c.redo_below-count.new.pages c.requires.log c.redo_below-count.ensures.count
    c.redo_below-count.ensures.redone c.number_on.ensures in
    subst (HoldsAsRead rs) (sym c.in-Read.is) (record {
      within = let v = c.end.view_is in let le = c.if-end-records.false in omega arith;
      read = sym c.if-number_on-number.false ∙ shown;
    })
