use Rattle.std.proofs.Common.{◌≡◌, ℕ, ◌+◌, ◌<◌, ◌++◌, ◌∙◌, List, [], ◌∷◌, length, take, take_all, ap, arith, refl, rules, sym}
use Rattle.std.specs.Prelude.{Result, Ok, Err, IfErr}
use Rattle.std.proofs.lemmas.List.{length-take, take_more}
use Rattle.std.proofs.lemmas.List.Elements.{All-nil, All-push}
use Rattle.engine_calls.specs.declared.event.Answer.{Answer}
use Rattle.engine_calls.specs.declared.event.Event.{Event}
use Rattle.engine_calls.specs.declared.refusal.Refusal.{Refusal}
use Rattle.engine_rules.specs.EngineState.{new_state}
use Rattle.engine_rules.specs.Step.{IsByDevice, IsByStore, IsFaultReply}
use Rattle.engine_rules.proofs.Public.{run_push, within_push}
use Rattle.event_script.specs.Reply.{line_of_reply}
use Rattle.script_run.specs.PageLines.{ended}
use Rattle.script_run.proofs.Faultless.{faultless, lines_push}
use Rattle.script_run.proofs.memory_play.play_in_memory.Goals as goal

-- a store that has not failed is not told of
sound_store : (before after : ℕ) (reply : Result Answer Refusal) → after ≡ before
    → IfErr reply (λ why. IsByStore why → before < after) → ¬ IsFaultReply IsByStore reply
sound_store before after (Ok answer) same cause = λ h. h
sound_store before after (Err why) same cause = λ h. absurd (omega (arith, cause h, same))

pub loop-event-preserved : goal.loop-event-preserved
loop-event-preserved c =
    let replies = c.loop-event.invariant.0 in
    let so_far = c.loop-event.invariant.1 in
    let i = c.loop-event.event-index in
    let events = c.args.events.now in
    let event = c.event-item.result in
    let reply = c.apply.result in
    let within : i < length events = omega arith in
    let next : take (i + 1) events ≡ take i events ++ event ∷ [] =
    take_more events i event within ∙ ap (λ (e : Event). take i events ++ e ∷ []) (sym c.event-item.is) in
    let start = new_state c.args.setup.pages c.args.setup.frames in (
      replies ++ reply ∷ [],
      record {
        text = c.in_ok-put_reply.ensures ∙ ap (λ (xs : List ℕ). xs ++ ended (line_of_reply reply)) so_far.text
            ∙ sym (lines_push replies reply);
        run = rw next (run_push start (take i events) replies c.loop-event.engine.state event
            reply c.apply.new.self.state so_far.run c.apply.ensures.step);
        device = within_push c.args.setup.pages c.args.setup.frames (length events)
            (c.loop-event.engine.device.room + 1) (c.loop-event.engine.device.room + 1) (take i events) replies
            c.loop-event.engine.state event reply c.apply.new.self.state so_far.run c.apply.ensures.step
            (omega (arith, length-take i events)) refl c.apply.ensures.device.past_bound (λ h. so_far.device)
            (omega (arith, so_far.room));
        store = All-push (λ reply. ¬ IsFaultReply IsByStore reply) replies reply so_far.store
            (sound_store 0 0 reply refl c.apply.ensures.store.cause);
        room = omega (arith, c.apply.ensures.device.same_bound, so_far.room);
      },
    )

pub loop-event-init : goal.loop-event-init
loop-event-init c = (
  [],
  record {
    text = search rules;
    run = search rules;
    device = All-nil (λ reply. ¬ IsFaultReply IsByDevice reply);
    store = All-nil (λ reply. ¬ IsFaultReply IsByStore reply);
    room = search rules;
  },
)

pub returns : goal.returns
returns c =
    let replies = c.loop-event.invariant.0 in
    let so_far = c.loop-event.invariant.1 in
    let all : take c.loop-event.event-index c.args.events.now ≡ c.args.events.now = take_all _ _ (omega arith) in (
      replies,
      (
        so_far.text,
        faultless replies so_far.device so_far.store,
        (
          c.loop-event.engine.state,
          rw all at so_far.run,
          record {
            log = c.retire.ensures.log;
            forced_end = c.retire.ensures.forced_end;
            master = c.retire.ensures.master;
            copies = c.retire.ensures.copies;
          },
        ),
      ),
    )
