-- A run that goes on by one step, and what its replies tell of the device.
use Rattle.std.proofs.Common.{◌≡◌, ◌⊎◌, ℕ, ◌+◌, ◌<◌, ◌≤◌, ◌++◌, List, [], ◌∷◌, length, refl, ap}
use Rattle.std.proofs.Common.{subst, ◌∙◌, arith, inl, inr}
use Rattle.std.specs.Prelude.{Result, Ok, Err, All, Any, IfErr, OnOk}
use Rattle.std.proofs.lemmas.List.{length_push}
use Rattle.std.proofs.lemmas.List.Elements.{All-push, Contains-append_left}
use Rattle.std.proofs.lemmas.List.Quantifiers.{Any-push}
use Rattle.engine_calls.specs.declared.event.Answer.{Answer}
use Rattle.engine_calls.specs.declared.event.Event.{Event}
use Rattle.engine_calls.specs.declared.refusal.Refusal.{Refusal}
use Rattle.engine_calls.specs.declared.refusal.Refusal.TheVariants.{CommitUnsure, LogFault}
use Rattle.engine_calls.specs.declared.refusal.Refusal.TheVariants.{StoreFault}
use Rattle.log_records.specs.Log.{lsn_of}
use Rattle.engine_rules.specs.EngineState.{EngineState, end, new_state}
use Rattle.engine_rules.specs.EngineView.{EngineView}
use Rattle.engine_rules.specs.Run.{Run}
use Rattle.engine_rules.specs.Step.{IsByDevice, IsByStore}
use Rattle.engine_rules.specs.Step.{IsFaultReply, Step, TellsOfFault}
use Rattle.engine_rules.specs.Storage.{CallOn, PlaysOn, RunOn}
use Rattle.engine_rules.specs.Storage.{Storage}
use Rattle.engine_rules.proofs.Steps.{stays_or_grows}

-- ---- one step more

pub run_push : (old : EngineState) (events : List Event) (replies : List (Result Answer Refusal)) (mid : EngineState)
    (event : Event) (reply : Result Answer Refusal) (new : EngineState)
    → Run old events replies mid → Step mid event reply new
    → Run old (events ++ event ∷ []) (replies ++ reply ∷ []) new
run_push old [] [] mid event reply new is step =
    (new, subst (λ (s : EngineState). Step s event reply new) is step, refl)
run_push old (first ∷ events) (answered ∷ replies) mid event reply new run step =
    (run.0, run.1, run_push run.0 events replies mid event reply new run.2 step)
run_push old [] (answered ∷ replies) mid event reply new run step = absurd run
run_push old (first ∷ events) [] mid event reply new run step = absurd run

-- ---- what fails: the log's device, or the store

abbrev pub IsSound : (Refusal → Type 0) → Result Answer Refusal → Type 0
IsSound Of reply = ¬ IsFaultReply Of reply

pub record NoFault (Of : Refusal → Type 0) (replies : List (Result Answer Refusal)) (start now : ℕ) : Type 0 where
  pub sound : All (IsSound Of) replies
  pub same : now ≡ start

pub record SomeFault (Of : Refusal → Type 0) (replies : List (Result Answer Refusal)) (start now : ℕ) : Type 0 where
  pub fault : Any (IsFaultReply Of) replies
  pub more : start < now

-- the failures of a device or a store were so many at the start, and are so many now: more just where a reply tells
-- of one
abbrev pub Tells : (Refusal → Type 0) → ℕ → List (Result Answer Refusal) → ℕ → Type 0
Tells Of start replies now = NoFault Of replies start now ⊎ SomeFault Of replies start now

-- what is left as it was has not failed
pub left_sound : (Of : Refusal → Type 0) {D : Type 0} (failures : D → ℕ) (old new : D) (reply : Result Answer Refusal)
    → IfErr reply (λ why. ¬ Of why → new ≡ old) → IfErr reply (λ why. ¬ Of why → failures new ≡ failures old)
left_sound Of failures old new (Ok answer) same = tt
left_sound Of failures old new (Err why) same = λ h. ap failures (same h)

-- what a step says of the failures
counts : (Of : Refusal → Type 0) {D : Type 0} (failures : D → ℕ) (old new : D) (reply : Result Answer Refusal)
    → IfErr reply (λ why. ¬ Of why → failures new ≡ failures old) → OnOk reply (failures new ≡ failures old)
    → IfErr reply (λ why. Of why → failures old < failures new)
    → TellsOfFault Of (failures old) reply (failures new)
counts Of failures old new (Ok answer) sound no_failure cause =
    record { sound = λ h. no_failure; fault = λ h. absurd h }
counts Of failures old new (Err why) sound no_failure cause = record { sound = sound; fault = cause }

pub by_device : (why : Refusal) → IsByDevice why ⊎ (¬ IsByDevice why)
by_device LogFault = inl tt
by_device (CommitUnsure lsn) = inl tt
by_device other = inr (λ h. h)

pub by_store : (why : Refusal) → IsByStore why ⊎ (¬ IsByStore why)
by_store StoreFault = inl tt
by_store other = inr (λ h. h)

fault_or_sound : (Of : Refusal → Type 0) → ((why : Refusal) → Of why ⊎ (¬ Of why)) → (reply : Result Answer Refusal)
    → IsFaultReply Of reply ⊎ IsSound Of reply
fault_or_sound Of decides (Ok answer) = inr (λ h. h)
fault_or_sound Of decides (Err why) = decides why

any_more : (Of : Refusal → Type 0) (replies : List (Result Answer Refusal)) (reply : Result Answer Refusal)
    → Any (IsFaultReply Of) replies → Any (IsFaultReply Of) (replies ++ reply ∷ [])
any_more Of replies reply (k, x, lt, is, bad) =
    let there = Contains-append_left replies (reply ∷ []) x (k, lt, is) in (there.0, x, there.1, there.2, bad)

tells_next : (Of : Refusal → Type 0) (start old new : ℕ) (replies : List (Result Answer Refusal))
    (reply : Result Answer Refusal) → IsFaultReply Of reply ⊎ IsSound Of reply → Tells Of start replies old
    → TellsOfFault Of old reply new → Tells Of start (replies ++ reply ∷ []) new
tells_next Of start old new replies reply (inr sound) (inl so_far) one = inl (record {
  sound = All-push (IsSound Of) replies reply so_far.sound sound;
  same = one.sound sound ∙ so_far.same;
})
tells_next Of start old new replies reply (inl bad) (inl so_far) one = inr (record {
  fault = Any-push (IsFaultReply Of) replies reply bad;
  more = omega (arith, one.fault bad, so_far.same);
})
tells_next Of start old new replies reply (inr sound) (inr so_far) one = inr (record {
  fault = any_more Of replies reply so_far.fault;
  more = omega (arith, one.sound sound, so_far.more);
})
tells_next Of start old new replies reply (inl bad) (inr so_far) one = inr (record {
  fault = any_more Of replies reply so_far.fault;
  more = omega (arith, one.fault bad, so_far.more);
})

pub tells_push : (Of : Refusal → Type 0) → ((why : Refusal) → Of why ⊎ (¬ Of why)) → {D : Type 0} (failures : D → ℕ)
    (start : ℕ) (old new : D) (replies : List (Result Answer Refusal))
    (reply : Result Answer Refusal) → Tells Of start replies (failures old)
    → IfErr reply (λ why. ¬ Of why → failures new ≡ failures old) → OnOk reply (failures new ≡ failures old)
    → IfErr reply (λ why. Of why → failures old < failures new)
    → Tells Of start (replies ++ reply ∷ []) (failures new)
tells_push Of decides failures start old new replies reply tells sound no_failure cause =
    tells_next Of start (failures old) (failures new) replies reply (fault_or_sound Of decides reply) tells
    (counts Of failures old new reply sound no_failure cause)

-- ---- each call for itself

run_on_push : {S D : Type 0} (on : Storage S D) (old : EngineView S D) (events : List Event)
    (replies : List (Result Answer Refusal)) (mid : EngineView S D) (event : Event) (reply : Result Answer Refusal)
    (new : EngineView S D) → RunOn on old events replies mid → CallOn on mid event reply new
    → RunOn on old (events ++ event ∷ []) (replies ++ reply ∷ []) new
run_on_push on old [] [] mid event reply new is call =
    (new, subst (λ before. CallOn on before event reply new) is call, refl)
run_on_push on old (first ∷ events) (answered ∷ replies) mid event reply new run call =
    (run.0, run.1, run_on_push on run.0 events replies mid event reply new run.2 call)
run_on_push on old [] (answered ∷ replies) mid event reply new run call = absurd run
run_on_push on old (first ∷ events) [] mid event reply new run call = absurd run

pub plays_push : {S D : Type 0} (on : Storage S D) (pages frames : ℕ) (store : S) (device : D) (events : List Event)
    (replies : List (Result Answer Refusal)) (mid : EngineView S D) (event : Event) (reply : Result Answer Refusal)
    (new : EngineView S D) → PlaysOn on pages frames store device events replies mid → CallOn on mid event reply new
    → PlaysOn on pages frames store device (events ++ event ∷ []) (replies ++ reply ∷ []) new
plays_push on pages frames store device events replies mid event reply new plays call = record {
  first = plays.first;
  made = plays.made;
  run = run_on_push on plays.first events replies mid event reply new plays.run call;
}

-- ---- a device that has room for a record of each event

step_adds : (old : EngineState) (event : Event) (reply : Result Answer Refusal) (new : EngineState)
    → Step old event reply new → length new.log ≤ length old.log + 1
step_adds old event reply new step = elim (stays_or_grows old event reply new step) [
  | inl stays ↦ omega (arith, ap length stays.log)
  | inr grows ↦ omega (arith, ap length grows.log, length_push old.log grows.r)
]

run_adds : (old : EngineState) (events : List Event) (replies : List (Result Answer Refusal)) (new : EngineState)
    → Run old events replies new → length new.log ≤ length old.log + length events
run_adds old [] [] new is = omega (arith, ap (λ (s : EngineState). length s.log) is)
run_adds old (event ∷ events) (reply ∷ replies) new run =
    omega (arith, step_adds old event reply run.0 run.1, run_adds run.0 events replies new run.2)
run_adds old [] (reply ∷ replies) new run = absurd run
run_adds old (event ∷ events) [] new run = absurd run

-- a log of fewer records ends before the bound from which on the device fails, now as at the start
pub within_push : (pages frames n start now : ℕ) (events : List Event) (replies : List (Result Answer Refusal))
    (old : EngineState) (event : Event) (reply : Result Answer Refusal) (new : EngineState)
    → Run (new_state pages frames) events replies old → Step old event reply new → length events < n → now ≡ start
    → IfErr reply (λ why. IsByDevice why → now ≤ end new) → (lsn_of n < start → All (IsSound IsByDevice) replies)
    → lsn_of n < start → All (IsSound IsByDevice) (replies ++ reply ∷ [])
within_push pages frames n start now events replies old event reply new run step within same past so_far fits =
    All-push (IsSound IsByDevice) replies reply (so_far fits) (sound_here reply past)
  where
    few : length new.log ≤ n
    few = omega (
      arith,
      run_adds (new_state pages frames) events replies old run,
      step_adds old event reply new step,
      within,
    )

    sound_here : (reply : Result Answer Refusal) → IfErr reply (λ why. IsByDevice why → now ≤ end new)
        → IsSound IsByDevice reply
    sound_here (Ok answer) past = λ h. h
    sound_here (Err why) past = λ h. absurd (omega (arith, past h, few, fits, same))
