use Rattle.std.proofs.Common.{◌+◌, ◌≤◌, length, refl, ◌∙◌, arith}
use Rattle.log_records.specs.Log.{lsn_of}
use Rattle.log_store.proofs.Devices.{keeps_all, keeps_longer}
use Rattle.log_store.proofs.Stores.{fails_at_next, forced_push, none_between, on_err}
use Rattle.log_store.proofs.WrittenLogs.{on_device}
use Rattle.log_store.proofs.stored_log.StoredLog.store_to.Goals as goal

pub loop-init : goal.loop-init
loop-init g c =
    let it = c.self.inside in
    let bytes = g.D.LogDevice.bytes in
    let long : lsn_of it.stored ≤ length (bytes it.device) =
    on_device bytes it.pages it.records.items it.stored _ it.device c.self.invariant.0 in
    rw (← c.self.view_is) (record {
      same = refl;
      forced = refl;
      rising = omega arith;
      most = omega arith;
      stands = keeps_all (lsn_of it.stored) (bytes it.device) long;
      lasting = omega arith;
      nothing_more = λ more. absurd (omega (arith, more));
      idle = λ same. refl;
      reached = record { first = it.stored; next = it.stored; order = omega arith; from = refl; to = refl };
      called = rw (none_between it.records.items (lsn_of it.stored)) refl;
      no_failure = refl;
      same_bound = refl;
    })

pub returns-in_err-store_next-clause-stands : goal.returns-in_err-store_next-clause-stands
returns-in_err-store_next-clause-stands g c =
    keeps_longer _ _ _ _ _ c.loop.invariant.rising c.loop.invariant.stands c.store_next.ensures.stands

pub loop-preserved : goal.loop-preserved
loop-preserved g c =
    let so_far = c.loop.invariant in
    let next = c.in_ok-store_next.ensures in
    let at = so_far.reached in
    record {
      same = next.same ∙ so_far.same;
      forced = omega (arith, next.forced, so_far.forced);
      rising = omega (arith, next.forced, so_far.rising);
      most = omega (arith, next.forced, so_far.forced);
      stands = keeps_longer _ _ _ _ _ so_far.rising so_far.stands next.stands;
      lasting = omega (arith, next.lasting, so_far.lasting, so_far.rising);
      nothing_more = λ more. next.nothing_more;
      idle = λ same. absurd (omega (arith, same, next.forced, so_far.rising));
      reached = record {
        first = at.first;
        next = at.next + 1;
        order = let o = at.order in omega arith;
        from = at.from;
        to = let t = at.to in omega (arith, next.forced);
      };
      called =
          forced_push g.D.LogDevice.called _ c.loop.self c.store_next.new.self at so_far.called next.called next.same
          next.forced;
      no_failure = next.no_failure ∙ so_far.no_failure;
      same_bound = next.same_bound ∙ so_far.same_bound;
    }

pub returns-in_err-store_next-clause-last_call : goal.returns-in_err-store_next-clause-last_call
returns-in_err-store_next-clause-last_call g c =
    let next = c.in_err-store_next.ensures in
    on_err c.from_residual.result _
    (fails_at_next g.D.LogDevice.called c.args.self.now c.loop.self c.store_next.new.self _
    c.loop.invariant.called next.called next.same next.not_forced)
