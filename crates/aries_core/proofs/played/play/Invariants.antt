use Rattle.std.proofs.Common.{◌≡◌, ◌<◌, ◌≤◌, length, take, vec_len}
use Rattle.std.specs.Prelude.{All}
use Rattle.std.specs.Vec.{vec_capacity}
use Rattle.log_records.specs.Log.{lsn_of}
use Rattle.engine_rules.specs.EngineState.{new_state}
use Rattle.engine_rules.specs.Run.{Run}
use Rattle.engine_rules.specs.Step.{IsByDevice, IsByStore, IsFaultReply}
use Rattle.engine_rules.specs.Storage.{PlaysOn, Storage}
use Rattle.engine_rules.proofs.Public.{Tells}
use Rattle.aries_core.proofs.played.play.Given as goal

-- what is seen of the store and the device
abbrev pub given_storage : (g : goal.Over) → Storage g.row.S.Denot g.row.D.Denot
given_storage g = record {
  called = g.D.LogDevice.called;
  synced = g.D.LogDevice.synced;
  bytes = g.D.LogDevice.bytes;
  device_failures = g.D.LogDevice.failures;
  gave = g.S.PageStore.gave;
  wrote = g.S.PageStore.wrote;
  grew = g.S.PageStore.grew;
  stored = g.S.PageStore.stored;
  store_failures = g.S.PageStore.failures;
}

abbrev pub invariant-loop-event : goal.invariant-loop-event
invariant-loop-event g l = record {
  count : vec_len l.replies ≡ l.event-index;
  room : length l.events ≤ vec_capacity l.replies;
  run : Run (new_state l.fn.setup.pages l.fn.setup.frames) (take l.event-index l.events) l.replies.items l.engine.state;
  tells : Tells IsByDevice (g.D.LogDevice.failures l.fn.device) l.replies.items
      (g.D.LogDevice.failures l.engine.device);
  store_tells : Tells IsByStore (g.S.PageStore.failures l.fn.store) l.replies.items
      (g.S.PageStore.failures l.engine.store);
  on : PlaysOn (given_storage g) l.fn.setup.pages l.fn.setup.frames l.fn.store l.fn.device (take l.event-index l.events)
      l.replies.items l.engine;
  bound : g.D.LogDevice.fails_from l.engine.device ≡ g.D.LogDevice.fails_from l.fn.device;
  within_bound : lsn_of (length l.events) < g.D.LogDevice.fails_from l.fn.device
      → All (λ reply. ¬ IsFaultReply IsByDevice reply) l.replies.items;
}
