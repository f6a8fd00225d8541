use Rattle.settlement.proofs.Orders.{in_order_more}
use Rattle.settlement.proofs.order.check_order.Goals as goal

pub loop-i-preserved : goal.loop-i-preserved
loop-i-preserved c k d h =
    in_order_more c.args.receipts.now c.loop-i.i c.index-receipts-i.result
    c.index-receipts-i-in-loop-i.result c.loop-i.auto.i c.loop-i-test.true
    c.index-receipts-i.is c.index-receipts-i-in-loop-i.is (c.comes_behind.ensures.yes c.if-not-comes_behind.false)
    c.loop-i.invariant k h d
