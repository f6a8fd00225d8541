use Rattle.std.proofs.Common.{refl, rules, ◌≡◌, ◌<◌, ◌+◌, length, [], ◌∷◌, ◌++◌, arith, take, take_all, subst, sym, ap, ◌∙◌}
use Rattle.std.specs.Prelude.{Result, Ok, Err, IfErr, IsErrAnd}
use Rattle.std.proofs.lemmas.List.{length-take, take_more}
use Rattle.engine_calls.specs.declared.event.Event.{Event}
use Rattle.engine_rules.specs.EngineState.{IsFit, new_state}
use Rattle.engine_rules.specs.EngineView.{EngineView}
use Rattle.engine_rules.specs.Step.{IsByDevice, IsByStore}
use Rattle.engine_rules.proofs.Public.{work_of_run}
use Rattle.engine_rules.proofs.Public.{copies_of_run}
use Rattle.engine_rules.proofs.Public.{frames_of_run}
use Rattle.engine_rules.proofs.Public.{written_of_run}
use Rattle.aries_core.proofs.Uses.{call_on}
use Rattle.engine_rules.proofs.Public.{by_device, by_store, left_sound, plays_push, run_push, tells_push}
use Rattle.engine_rules.proofs.Public.{within_push}
use Rattle.aries_core.proofs.played.play.Invariants.{given_storage}
use Rattle.engine_rules.proofs.Public.{new_is_sized}
use Rattle.engine_rules.specs.CkptReplies.{new_size}
use Rattle.aries_core.proofs.played.play.Goals as goal

pub loop-event-preserved : goal.loop-event-preserved
loop-event-preserved g c =
    let so_far = c.loop-event.invariant in
    let i = c.loop-event.event-index in
    let events = c.args.events.now in
    let event = c.event-item.result in
    let items = rw c.unwrap.ensures at c.push.ensures.items in
    let count = rw c.unwrap.ensures at c.push.ensures.len in
    let within : i < length events = omega arith in
    let next : take (i + 1) events ≡ take i events ++ event ∷ [] =
    take_more events i event within ∙ ap (λ (e : Event). take i events ++ e ∷ []) (sym c.event-item.is) in
    let start = new_state c.args.setup.pages c.args.setup.frames in
    record {
      count = omega (arith, count, so_far.count);
      room = omega (arith, so_far.room, c.push.ensures.capacity);
      run = rw (next, items) (run_push start (take i events) c.loop-event.replies.items c.loop-event.engine.state event
          c.apply.result c.apply.new.self.state so_far.run c.apply.ensures.step);
      tells = rw items (tells_push IsByDevice by_device g.D.LogDevice.failures (g.D.LogDevice.failures c.args.device)
          c.loop-event.engine.device c.apply.new.self.device c.loop-event.replies.items c.apply.result so_far.tells
          c.apply.ensures.device.sound c.apply.ensures.device.no_failure c.apply.ensures.device.cause);
      store_tells = rw items (tells_push IsByStore by_store g.S.PageStore.failures (g.S.PageStore.failures c.args.store)
          c.loop-event.engine.store c.apply.new.self.store c.loop-event.replies.items c.apply.result so_far.store_tells
          (left_sound IsByStore g.S.PageStore.failures c.loop-event.engine.store c.apply.new.self.store c.apply.result
          c.apply.ensures.store.refused) c.apply.ensures.store.no_failure c.apply.ensures.store.cause);
      on = rw (next, items) (plays_push (given_storage g) c.args.setup.pages c.args.setup.frames c.args.store c.args.device (take i events)
          c.loop-event.replies.items c.loop-event.engine event c.apply.result c.apply.new.self so_far.on
          (call_on (given_storage g) g.D.LogDevice.fails_from c.loop-event.engine event c.apply.result c.apply.new.self
          c.apply.ensures.step c.apply.ensures.store c.apply.ensures.device
          (record { pages = c.log-in-loop-event.ensures.pages; records = c.log-in-loop-event.ensures.records })));
      bound = c.apply.ensures.device.same_bound ∙ so_far.bound;
      within_bound = rw items (within_push c.args.setup.pages c.args.setup.frames (length events) (g.D.LogDevice.fails_from c.args.device)
          (g.D.LogDevice.fails_from c.loop-event.engine.device) (take i events) c.loop-event.replies.items
          c.loop-event.engine.state event c.apply.result c.apply.new.self.state so_far.run c.apply.ensures.step
          (omega (arith, length-take i events)) so_far.bound c.apply.ensures.device.past_bound so_far.within_bound);
    }

pub returns-clause-work : goal.returns-clause-work
returns-clause-work g c =
    let so_far = c.loop-event.invariant in
    let all : take c.loop-event.event-index c.args.events.now ≡ c.args.events.now = take_all _ _ (omega arith) in
    work_of_run (new_state c.args.setup.pages c.args.setup.frames) c.args.events.now c.loop-event.replies.items c.loop-event.engine.state
    (rw all at so_far.run)

pub returns-clause-fit : goal.returns-clause-fit
returns-clause-fit g c =
    subst (λ (v : EngineView g.row.S.Denot g.row.D.Denot). IsFit v.state) c.engine-2.view_is c.engine-2.invariant.fit

pub returns-clause-written : goal.returns-clause-written
returns-clause-written g c =
    let so_far = c.loop-event.invariant in
    let all : take c.loop-event.event-index c.args.events.now ≡ c.args.events.now = take_all _ _ (omega arith) in
    written_of_run (new_state c.args.setup.pages c.args.setup.frames) c.args.events.now c.loop-event.replies.items
    c.loop-event.engine.state (rw all at so_far.run)

pub returns-clause-frames : goal.returns-clause-frames
returns-clause-frames g c =
    let so_far = c.loop-event.invariant in
    let all : take c.loop-event.event-index c.args.events.now ≡ c.args.events.now = take_all _ _ (omega arith) in
    frames_of_run (new_state c.args.setup.pages c.args.setup.frames) c.args.events.now c.loop-event.replies.items
    c.loop-event.engine.state (rw all at so_far.run)

pub returns-clause-catalogue : goal.returns-clause-catalogue
returns-clause-catalogue g c =
    let so_far = c.loop-event.invariant in
    let all : take c.loop-event.event-index c.args.events.now ≡ c.args.events.now = take_all _ _ (omega arith) in
    copies_of_run (new_state c.args.setup.pages c.args.setup.frames) (new_size c.args.setup.pages) c.args.events.now
    c.loop-event.replies.items c.loop-event.engine.state
    (new_is_sized c.args.setup.pages c.args.setup.frames) (rw all at so_far.run)

pub loop-event-init : goal.loop-event-init
loop-event-init g c = record {
  count = search rules;
  room = search rules;
  run = search rules;
  tells = search rules;
  store_tells = search rules;
  on =
      let made = c.in_ok-engine.ensures in
      rw c.in-Ok.ensures.items (record {
        first = c.in_ok-engine.engine;
        made = record {
          state = made.empty;
          stored = record { pages = c.log.ensures.pages; records = c.log.ensures.records };
          given = made.store;
          header = made.header;
          no_failure = made.no_failure;
        };
        run = refl;
      });
  bound = search rules;
  within_bound = search rules;
}

pub returns-clause-played : goal.returns-clause-played
returns-clause-played g c =
    let so_far = c.loop-event.invariant in
    let all : take c.loop-event.event-index c.args.events.now ≡ c.args.events.now = take_all _ _ (omega arith) in
    rw all at so_far.on

-- what is said of an error that was handed on
handed_on : {T E : Type 0} (r : Result T E) (e : E) (Q : E → Type 0) → IsErrAnd r (λ f. f ≡ e) → Q e → IfErr r Q
handed_on (Ok x) e Q is h = tt
handed_on (Err f) e Q is h = subst Q (sym is) h

pub returns-in_err-engine-clause-cause : goal.returns-in_err-engine-clause-cause
returns-in_err-engine-clause-cause g c =
    handed_on c.from_residual.result c.in_err-engine.field-0.0 _ c.from_residual.ensures.1 c.in_err-engine.ensures.cause
