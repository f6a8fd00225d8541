use Rattle.std.proofs.Common.{◌-◌, ◌≤◌, length, sym, ap, subst, arith}
use Rattle.std.specs.Vec.{vec_capacity, vec_len}
use Rattle.log_records.specs.Log.{lsn_of}
use Rattle.log_store.specs.Device.{KeepsFirst}
use Rattle.log_store.specs.WrittenLog.{IsWritten, WrittenLog, written_log}
use Rattle.log_store.proofs.Devices.{keeps_fewer}
use Rattle.log_store.proofs.WrittenLogs.{on_device, written_kept}
use Rattle.log_store.proofs.stored_log.StoredLog.sync.Goals as goal

pub invariant_of-self : goal.invariant_of-self
invariant_of-self g c =
    let it = c.self.inside in
    let bytes = g.D.LogDevice.bytes in
    let n = lsn_of c.args.lasting in
    let room = vec_capacity it.records - vec_len it.records in
    let kept : IsWritten bytes (written_log it.pages it.records.items c.args.lasting room it.device) =
    subst (λ (v : WrittenLog g.row.D.Denot). IsWritten bytes (record v { forced_end = n })) (sym c.self.view_is)
    c.requires.kept in
    let lasts : n ≤ g.D.LogDevice.lasting it.device =
    subst (λ (v : WrittenLog g.row.D.Denot). n ≤ g.D.LogDevice.lasting v.device) (sym c.self.view_is) c.requires.lasts in (
      written_kept bytes (written_log it.pages it.records.items c.args.lasting room it.device) c.sync.new.self room kept
          (keeps_fewer n (g.D.LogDevice.lasting it.device) (bytes it.device) (bytes c.sync.new.self) lasts
          c.in-Err.ensures.kept),
      c.self.invariant.1,
    )

pub returns-in-Err-clause-stands : goal.returns-in-Err-clause-stands
returns-in-Err-clause-stands g c =
    let it = c.self.inside in
    let bytes = g.D.LogDevice.bytes in
    let n = lsn_of c.args.lasting in
    let lasts : n ≤ g.D.LogDevice.lasting it.device =
    subst (λ (v : WrittenLog g.row.D.Denot). n ≤ g.D.LogDevice.lasting v.device) (sym c.self.view_is) c.requires.lasts in
    subst (λ (v : WrittenLog g.row.D.Denot). KeepsFirst n (bytes v.device) (bytes c.sync.new.self)) c.self.view_is
    (keeps_fewer n (g.D.LogDevice.lasting it.device) (bytes it.device) (bytes c.sync.new.self) lasts
    c.in-Err.ensures.kept)

pub returns-clause-all : goal.returns-clause-all
returns-clause-all g c =
    let it = c.self.inside in
    let bytes = g.D.LogDevice.bytes in
    omega (
      arith,
      on_device bytes it.pages it.records.items it.stored _ it.device c.self.invariant.0,
      ap length c.in_default.ensures.same,
      c.in_default.ensures.all,
    )
