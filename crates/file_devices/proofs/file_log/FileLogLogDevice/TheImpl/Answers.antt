use Rattle.std.proofs.Common.{arith, refl}
use Rattle.std.proofs.lemmas.Result.{on_err_weaker, on_ok_weaker}
use Rattle.file_devices.specs.FileLog.{synced_of}
use Rattle.file_devices.proofs.Kept.{keeps_synced}
use Rattle.file_devices.proofs.file_log.FileLogLogDevice.TheImpl.Goals as goal

pub sync-tells : goal.sync-tells
sync-tells g c = record {
  same = c.ensures.same;
  all = on_ok_weaker c.result (λ e. omega (arith, e)) c.ensures.all;
  kept = on_err_weaker c.result
      (λ e. keeps_synced (synced_of c.args.self.now) c.args.self.now.waiting _ c.args.self.now.end e.0 e.1)
      c.ensures.kept;
  lasting = on_err_weaker c.result (λ e. omega (arith, e)) c.ensures.exact.kept;
  synced = c.ensures.exact;
  no_failure = c.ensures.no_failure;
  failure = on_err_weaker c.result (λ e. omega (arith, e)) c.ensures.failure;
  same_bound = refl;
  past_bound = on_err_weaker c.result (λ e. omega arith) c.ensures.failure;
}
