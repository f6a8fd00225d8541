use Rattle.std.proofs.Common.{[], ◌∷◌, sym, subst}
use Rattle.log_records.specs.Log.{Log}
use Rattle.log_store.specs.PageHistory.{AreHistories}
use Rattle.log_store.proofs.Histories.{histories_later}
use Rattle.log_store.proofs.log.Log.append.Goals as goal

pub invariant_of-self : goal.invariant_of-self
invariant_of-self g c =
    let it = c.self.inside in (
      rw (c.append.ensures.forced_end, c.append.ensures.device) c.self.invariant.0,
      subst (λ (l : Log). AreHistories l.records it.index) (sym c.append.ensures.next)
          (histories_later it.stored.log.records (c.args.next ∷ []) it.index c.self.invariant.1),
    )
