use Rattle.std.proofs.Common.{◌≡◌, ◌≤◌, ◌<◌, length, Some, arith, refl, subst, sym}
use Rattle.std.specs.List.{slice_get}
use Rattle.std.proofs.lemmas.Option.{slice_get_read}
use Rattle.log_store.specs.WrittenLog.{WrittenLog}
use Rattle.log_store.proofs.stored_log.StoredLog.store_next.Given.{Over}
use Rattle.log_records.specs.Log.{lsn_of}
use Rattle.log_store.proofs.Devices.{keeps_stored, length_stored}
use Rattle.log_store.proofs.WrittenLogs.{next_lsn, next_there, on_device, written_next}
use Rattle.log_store.proofs.stored_log.StoredLog.store_next.Goals as goal

pub store-requires : goal.store-requires
store-requires g c =
    let it = c.self.inside in
    omega (arith, on_device g.D.LogDevice.bytes it.pages it.records.items it.stored _ it.device c.self.invariant.0)

pub returns-clause-stands : goal.returns-clause-stands
returns-clause-stands g c =
    let it = c.self.inside in
    let bytes = g.D.LogDevice.bytes in
    let long : lsn_of it.stored ≤ length (bytes it.device) =
    on_device bytes it.pages it.records.items it.stored _ it.device c.self.invariant.0 in
    rw (← c.self.view_is) (keeps_stored _ _ _ _ _ c.offset_of.ensures long c.in_ok-store.ensures.stored)

pub returns-clause-nothing_more : goal.returns-clause-nothing_more
returns-clause-nothing_more g c =
    let it = c.self.inside in
    let bytes = g.D.LogDevice.bytes in
    let long : lsn_of it.stored ≤ length (bytes it.device) =
    on_device bytes it.pages it.records.items it.stored _ it.device c.self.invariant.0 in
    omega (
      arith,
      length_stored _ _ _ _ _ c.offset_of.ensures long c.in_ok-store.ensures.stored,
      c.encode-next.type_inv,
    )

-- the record that is forced next
read : (g : Over) (c : goal.After-self-1 g)
    → slice_get c.self.inside.records.items c.self.inside.stored ≡ Some c.index.result.now
read g c =
    let it = c.self.inside in
    let asked : lsn_of it.stored < lsn_of (length it.records.items) =
    subst (λ (v : WrittenLog g.row.D.Denot). v.forced_end < lsn_of (length v.log.records)) (sym c.self.view_is) c.requires in
    slice_get_read it.records.items (length it.records.items) it.stored c.index.result.now refl (omega arith)
    c.index.ensures

pub invariant_of-self-2 : goal.invariant_of-self-2
invariant_of-self-2 g c =
    let it = c.self.inside in
    let bytes = g.D.LogDevice.bytes in (
      written_next bytes it.pages it.records.items it.stored _ it.device c.store.new.self c.self.invariant.0
          c.index.result.now (read g c)
          (rw (← c.offset_of.ensures, ← c.encode-next.ensures) c.in_ok-store.ensures.stored),
      c.self.invariant.1,
    )

pub returns-clause-called : goal.returns-clause-called
returns-clause-called g c =
    let it = c.self.inside in
    let bytes = g.D.LogDevice.bytes in
    rw (← c.self.view_is) (
      c.index.result.now,
      next_there bytes it.pages it.records.items it.stored _ it.device it.device c.self.invariant.0 c.index.result.now
          (read g c),
      rw (
        next_lsn bytes it.pages it.records.items it.stored _ it.device it.device c.self.invariant.0 c.index.result.now
            (read g c),
        ← c.offset_of.ensures,
        ← c.encode-next.ensures,
      ) c.in_ok-store.ensures.called,
    )
