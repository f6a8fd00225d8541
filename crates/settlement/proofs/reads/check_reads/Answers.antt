use Rattle.std.proofs.Common.{◌∙◌, ap, subst, arith, length, take}
use Rattle.std.specs.List.{All}
use Rattle.std.proofs.lemmas.List.{take_all}
use Rattle.std.proofs.lemmas.List.Elements.{All-more}
use Rattle.log_records.specs.Image.{redo_all}
use Rattle.settlement.specs.Receipt.{HoldsAsRead}
use Rattle.settlement.proofs.Below.{counts_rise, volume_fits}
use Rattle.settlement.proofs.reads.check_reads.Goals as goal

pub format-requires : goal.format-requires
format-requires c = omega (arith, volume_fits (length c.args.pages.now) c.args.records.now c.requires.log)

pub loop-receipt-preserved : goal.loop-receipt-preserved
loop-receipt-preserved c =
    let xs = c.args.receipts.now in
    let rs = c.args.records.now in
    let i = c.loop-receipt.receipt-index in
    let x = c.receipt-item.result in
    let so_far = c.loop-receipt.invariant in
    let inside = c.loop-receipt-test.true in
    let is = c.receipt-item.is in
    let now = c.in_ok-redone.ensures in
    record {
      lengths = c.check_read.ensures.same_length ∙ so_far.lengths;
      pages = now.redone ∙ ap (redo_all (take c.in_ok-redone.redone rs)) so_far.lengths;
      behind = λ j d lt within.
          let rise = counts_rise xs i j (length rs) x d c.requires.order (omega arith) within is in
          let count = now.count in
          omega arith;
      read = All-more (HoldsAsRead rs) xs i x inside so_far.read (subst (HoldsAsRead rs) is now.ok);
    }

pub returns-clause-ok : goal.returns-clause-ok
returns-clause-ok c =
    let xs = c.args.receipts.now in
    subst (All (HoldsAsRead c.args.records.now))
    (take_all c.loop-receipt.receipt-index xs (let done = c.loop-receipt-test.false in omega arith))
    c.loop-receipt.invariant.read
