use Rattle.std.proofs.Common.{◌≡◌, ◌<◌, refl, sym, subst, ◌∙◌, arith}
use Rattle.std.specs.Prelude.{OnErr, OnOk}
use Rattle.log_records.specs.Log.{Log}
use Rattle.log_store.specs.Stores.{FailsAtNext, ForceFails, Forced, StoresForced, at_a_store, at_the_sync, in_one_sync}
use Rattle.log_store.specs.WrittenLog.{IsWritten, WrittenLog}
use Rattle.log_store.proofs.Stores.{either, if_err, if_ok, on_err}
use Rattle.log_store.proofs.WrittenLogs.{written_kept}
use Rattle.log_store.proofs.log.Log.force_to.Goals as goal

pub sync-requires-clause-kept : goal.sync-requires-clause-kept
sync-requires-clause-kept g c =
    let old = c.self.inside.stored in
    let new = c.store_to-done.new.self in
    let bytes = g.D.LogDevice.bytes in
    subst (λ n. IsWritten bytes (record new { forced_end = n })) c.count-forced.ensures.end
    (subst (λ (l : Log). IsWritten bytes (record new { log = l; forced_end = old.forced_end })) (sym c.store_to-done.ensures.same)
    (written_kept bytes old new.device new.room c.count-forced.ensures.kept c.store_to-done.ensures.stands))

pub returns-in_err-sync-clause-last_call : goal.returns-in_err-sync-clause-last_call
returns-in_err-sync-clause-last_call g c =
    let old = c.self.inside.stored in
    let reached = c.store_to-done.new.self in
    let called = g.D.LogDevice.called in
    let synced = g.D.LogDevice.synced in
    let more : old.forced_end < reached.forced_end =
    omega (arith, c.count.ensures.end, c.count-forced.ensures.end, c.if-count-forced.true) in
    on_err c.from_residual.result _
    (subst (λ (v : WrittenLog g.row.D.Denot). ForceFails called synced v c.sync.new.self) c.self.view_is
    (at_the_sync reached.forced_end reached.device _ more
    (rw c.sync.ensures.same
    (either c.store_to-done.result (StoresForced called old reached reached.device) (FailsAtNext called old reached)
    c.store_to-done.ensures.called c.store_to-done.ensures.last_call))
    c.in_err-sync.ensures.synced (c.in_err-sync.ensures.back ∙ sym c.count-forced.ensures.end)))

pub returns-in_ok-sync-clause-called : goal.returns-in_ok-sync-clause-called
returns-in_ok-sync-clause-called g c =
    let old = c.self.inside.stored in
    let reached = c.store_to-done.new.self in
    let new = c.sync.new.self in
    let called = g.D.LogDevice.called in
    let synced = g.D.LogDevice.synced in
    let more : old.forced_end < new.forced_end =
    omega (arith, c.count.ensures.end, c.count-forced.ensures.end, c.if-count-forced.true, c.in_ok-sync.ensures.end) in
    subst (λ (v : WrittenLog g.row.D.Denot). OnOk c.store_to-done.result (Forced called synced v new)) c.self.view_is
    (if_ok c.store_to-done.result (StoresForced called old reached reached.device) (Forced called synced old new)
    (λ stored. in_one_sync reached.device more (rw (c.sync.ensures.same, c.in_ok-sync.ensures.end) stored)
    c.in_ok-sync.ensures.synced) c.store_to-done.ensures.called)

pub returns-in_ok-sync-clause-last_call : goal.returns-in_ok-sync-clause-last_call
returns-in_ok-sync-clause-last_call g c =
    let old = c.self.inside.stored in
    let reached = c.store_to-done.new.self in
    let new = c.sync.new.self in
    let called = g.D.LogDevice.called in
    let synced = g.D.LogDevice.synced in
    let more : old.forced_end < new.forced_end =
    omega (arith, c.count.ensures.end, c.count-forced.ensures.end, c.if-count-forced.true, c.in_ok-sync.ensures.end) in
    subst (λ (v : WrittenLog g.row.D.Denot). OnErr c.store_to-done.result (ForceFails called synced v new)) c.self.view_is
    (if_err c.store_to-done.result (FailsAtNext called old reached) (ForceFails called synced old new)
    (λ fails. at_a_store reached.device (rw (c.sync.ensures.same, c.in_ok-sync.ensures.end) fails)
    (record { none = λ same. absurd (omega (arith, same, more)); some = λ lt. c.in_ok-sync.ensures.synced }))
    c.store_to-done.ensures.last_call)

pub returns-else-count-forced-clause-last_call : goal.returns-else-count-forced-clause-last_call
returns-else-count-forced-clause-last_call g c =
    let old = c.self.inside.stored in
    let reached = c.store_to-done.new.self in
    let called = g.D.LogDevice.called in
    let synced = g.D.LogDevice.synced in
    let none : reached.forced_end ≡ old.forced_end =
    omega (
      arith,
      c.count.ensures.end,
      c.count-forced.ensures.end,
      c.if-count-forced.false,
      c.store_to-done.ensures.rising,
    ) in
    subst (λ (v : WrittenLog g.row.D.Denot). OnErr c.store_to-done.result (ForceFails called synced v reached))
    c.self.view_is
    (if_err c.store_to-done.result (FailsAtNext called old reached) (ForceFails called synced old reached)
    (λ fails. at_a_store reached.device fails
    (record { none = λ same. refl; some = λ lt. absurd (omega (arith, lt, none)) }))
    c.store_to-done.ensures.last_call)
