use Rattle.std.proofs.Common.{refl}
use Rattle.engine_calls.specs.declared.event.Event.TheVariants as event
use Rattle.aries_core.proofs.engine.Engine.add.Goals as goal

pub update-requires-clause-called : goal.update-requires-clause-called
update-requires-clause-called g c = record {
  of_transaction = tt;
  call = event.Add c.args.txn c.args.page c.args.slot c.args.amount;
  fits = c.ranges.amount.fits;
  accepted = c.in_ok-prev.ensures.free;
  made = refl;
}
