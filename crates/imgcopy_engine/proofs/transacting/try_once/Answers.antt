use Rattle.std.proofs.Common.{◌++◌, ◌∷◌, ◌∙◌, [], ap, inl, refl}
use Rattle.settlement.specs.declared.receipt.Receipt.TheVariants.{Stepped}
use Rattle.std.proofs.lemmas.Fn.{Called-on}
use Rattle.imgcopy_engine.proofs.transacting.try_once.Goals as goal

pub returns-clause-tries : goal.returns-clause-tries
returns-clause-tries g c = inl (record {
  txn = c.in-Ok.begun.txn;
  lsn = c.in-Ok.begun.lsn;
  begun = c.begin.new.self;
  begins = record { call = c.in-Ok.ensures.called; last = c.in-Ok.ensures.receipt ∙ ap (λ r. g.C.Calls.receipts c.args.client.now ++ Stepped r ∷ []) c.in-Ok.ensures.names };
  outcome = c.work-outcome.result;
  worked = c.work-outcome.new.arg2;
  does = Called-on g.F.FnMut c.work-outcome.ensures refl;
  ends = c.finish.ensures.ends;
})
