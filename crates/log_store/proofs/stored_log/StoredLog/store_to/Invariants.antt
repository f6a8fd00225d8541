use Rattle.std.proofs.Common.{◌≡◌, ◌<◌, ◌≤◌, length, max, min}
use Rattle.log_store.specs.Device.{KeepsFirst}
use Rattle.log_records.specs.Log.{lsn_of}
use Rattle.log_store.specs.Stores.{StoresForced}
use Rattle.log_store.proofs.Stores.{Reached}
use Rattle.log_store.proofs.stored_log.StoredLog.store_to.Given as goal

abbrev pub invariant-loop : goal.invariant-loop
invariant-loop g l = record {
  same : l.self.log ≡ l.initial.self.log;
  forced : l.self.forced_end ≡ lsn_of l.counter;
  rising : l.initial.self.forced_end ≤ l.self.forced_end;
  most : l.self.forced_end ≤ max l.initial.self.forced_end (lsn_of l.count);
  stands : KeepsFirst l.initial.self.forced_end (g.D.LogDevice.bytes l.initial.self.device)
      (g.D.LogDevice.bytes l.self.device);
  lasting : min l.initial.self.forced_end (g.D.LogDevice.lasting l.initial.self.device)
      ≤ g.D.LogDevice.lasting l.self.device;
  nothing_more : l.initial.self.forced_end < l.self.forced_end
      → length (g.D.LogDevice.bytes l.self.device) ≡ l.self.forced_end;
  idle : l.self.forced_end ≡ l.initial.self.forced_end → l.self.device ≡ l.initial.self.device;
  reached : Reached l.initial.self l.self;
  called : StoresForced g.D.LogDevice.called l.initial.self l.self l.self.device;
  no_failure : g.D.LogDevice.failures l.self.device ≡ g.D.LogDevice.failures l.initial.self.device;
  same_bound : g.D.LogDevice.fails_from l.self.device ≡ g.D.LogDevice.fails_from l.initial.self.device;
}
