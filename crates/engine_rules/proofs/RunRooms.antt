-- Room at each place of the log, over whole runs.
use Rattle.std.proofs.Common.{◌≡◌, ℕ, ◌+◌, ◌<◌, ◌≤◌, List, [], ◌∷◌, length, sym, ap, subst, ◌∙◌}
use Rattle.std.proofs.Common.{arith, inl, inr}
use Rattle.std.specs.Prelude.{Result, take}
use Rattle.std.specs.List.{All}
use Rattle.std.proofs.lemmas.Bool.{cases_lt}
use Rattle.std.proofs.lemmas.List.{length_push, take-append-le}
use Rattle.std.proofs.lemmas.List.Elements.{All-head, All-tail}
use Rattle.log_records.specs.declared.limits.TheConstants.{MAX_RECORDS}
use Rattle.log_records.specs.declared.record.Record.{Record}
use Rattle.log_records.specs.Log.{IsPageCount, lsn_of}
use Rattle.log_rules.specs.Transactions.{owed}
use Rattle.copy_coverage.specs.Retired.{HasRoomForUndo}
use Rattle.engine_calls.specs.EventFits.{EventFits}
use Rattle.engine_calls.specs.declared.event.Answer.{Answer}
use Rattle.engine_calls.specs.declared.event.Event.{Event}
use Rattle.engine_calls.specs.declared.refusal.Refusal.{Refusal}
use Rattle.engine_rules.specs.EngineState.{EngineState, IsFit, new_state}
use Rattle.engine_rules.specs.Run.{Run}
use Rattle.engine_rules.specs.Step.{Step}
use Rattle.engine_rules.proofs.Fit.{fit_of_step, new_is_fit}
use Rattle.engine_rules.proofs.Runs.{log_of_run}
use Rattle.engine_rules.proofs.Steps.{stays_or_grows}

-- a step appends one record at most
one_at_most : (old : EngineState) (event : Event) (reply : Result Answer Refusal) (new : EngineState)
    → Step old event reply new → length new.log ≤ length old.log + 1
one_at_most old event reply new step = elim (stays_or_grows old event reply new step) [
  | inl stays ↦ omega (arith, ap length stays.log)
  | inr grows ↦ omega (arith, ap length grows.log, length_push old.log grows.r)
]

-- so a place behind the old log has all before it that is forced after the step
forced_before : (old new : EngineState) (n : ℕ) → IsFit new → length new.log ≤ length old.log + 1
    → length old.log < n → new.forced_end ≤ lsn_of n
forced_before old new n fit few behind = omega (arith, fit.forced.1, fit.forced.2)

pub room_of_run : (old : EngineState) (events : List Event) (replies : List (Result Answer Refusal))
    (new : EngineState) → IsFit old → All EventFits events → Run old events replies new
    → HasRoomForUndo new.log old.forced_end
room_of_run old [] [] new fit numbers is n le past =
    subst (λ (s : EngineState). n ≤ length s.log → length (take n s.log) + owed (take n s.log) ≤ MAX_RECORDS)
    (sym is) (λ within. fit.room n within past) le
room_of_run old (event ∷ events) (reply ∷ replies) new fit numbers run n le past =
    let mid = run.0 in
    let mid_fit = fit_of_step old event reply mid fit (All-head EventFits event events numbers) run.1 in
    elim (cases_lt (length old.log) n) [
      | inl behind ↦
          room_of_run mid events replies new mid_fit (All-tail EventFits event events numbers) run.2 n le
          (forced_before old mid n mid_fit (one_at_most old event reply mid run.1) behind)
      | inr part ↦
          let grown = log_of_run old (event ∷ events) (reply ∷ replies) new run in
          let first : take n new.log ≡ take n old.log =
          ap (λ (rs : List Record). take n rs) grown.1 ∙ take-append-le n old.log grown.0 part in
          subst (λ (rs : List Record). length rs + owed rs ≤ MAX_RECORDS) (sym first) (fit.room n part past)
    ]
room_of_run old [] (reply ∷ replies) new fit numbers run n le past = absurd run
room_of_run old (event ∷ events) [] new fit numbers run n le past = absurd run

-- nothing of a new engine's log is forced, so it is each place
pub room_of_new : (pages frames : ℕ) (events : List Event) (replies : List (Result Answer Refusal))
    (new : EngineState) → IsPageCount pages → All EventFits events → Run (new_state pages frames) events replies new
    → HasRoomForUndo new.log 0
room_of_new pages frames events replies new count numbers run n le past =
    room_of_run (new_state pages frames) events replies new (new_is_fit pages frames count) numbers run n le
    (omega arith)
