-- Laws of steps, over whole runs.
use Rattle.std.proofs.Common.{◌≡◌, ◌≢◌, refl, ℕ, ◌<◌, ◌≤◌, false, ◌++◌, List, [], ◌∷◌, sym, ap, ◌∙◌}
use Rattle.std.proofs.Common.{arith, inl, inr}
use Rattle.std.specs.Prelude.{Some, None, Result, Ok, Err}
use Rattle.std.proofs.lemmas.List.{append-nil, append_assoc, length_push}
use Rattle.std.proofs.Math.Bool.{and-false}
use Rattle.log_records.specs.declared.record.Record.{Record}
use Rattle.log_records.specs.declared.record.Record.TheVariants as log
use Rattle.log_rules.specs.Transactions.{is_open, last_lsn}
use Rattle.log_rules.proofs.Public.{is_open_push_own}
use Rattle.engine_calls.specs.declared.event.Answer.{Answer}
use Rattle.engine_calls.specs.declared.event.Answer.TheVariants as answer
use Rattle.engine_calls.specs.declared.event.Event.{Event}
use Rattle.engine_calls.specs.declared.event.Event.TheVariants as event
use Rattle.engine_calls.specs.declared.refusal.Refusal.{Refusal}
use Rattle.engine_calls.specs.declared.refusal.Refusal.TheVariants.{CommitUnsure, LogFault}
use Rattle.engine_calls.specs.declared.refusal.Refusal.TheVariants.{OutOfMemory, StoreFault}
use Rattle.engine_rules.specs.EngineState.{EngineState, IsFit, commit_record, end}
use Rattle.engine_rules.specs.Run.{Run}
use Rattle.engine_rules.specs.Step.{Fails, Step}
use Rattle.engine_rules.specs.Refusal.{refusal}
use Rattle.engine_rules.proofs.Refusals.{commit_not_unsure}
use Rattle.engine_rules.proofs.Forces.{EndsAtRecord}
use Rattle.engine_rules.proofs.Steps.{forces, stays_or_grows, step_leaves}

-- ---- the forced end

pub forced_end_from : (old : EngineState) (events : List Event)
    (replies : List (Result Answer Refusal)) (new : EngineState)
    → EndsAtRecord old → Run old events replies new → old.forced_end ≤ new.forced_end
forced_end_from old [] [] new ends is = rw is (omega arith)
forced_end_from old (event ∷ events) (reply ∷ replies) new ends run =
    let first = forces old event reply run.0 ends run.1 in
    omega (arith, first.1, forced_end_from run.0 events replies new first.0 run.2)
forced_end_from old [] (reply ∷ replies) new ends run = absurd run
forced_end_from old (event ∷ events) [] new ends run = absurd run

pub forced_end_of_run : (old : EngineState) (events : List Event) (replies : List (Result Answer Refusal))
    (new : EngineState) → IsFit old → Run old events replies new → old.forced_end ≤ new.forced_end
forced_end_of_run old events replies new fit run = forced_end_from old events replies new fit.forced run

-- ---- the log

log_of_step : (old : EngineState) (event : Event) (reply : Result Answer Refusal) (new : EngineState)
    → Step old event reply new → (rest : List Record) × (new.log ≡ old.log ++ rest)
log_of_step old event reply new step = elim (stays_or_grows old event reply new step) [
  | inl stays ↦ ([], stays.log ∙ sym (append-nil old.log))
  | inr grows ↦ (grows.r ∷ [], grows.log)
]

pub log_of_run : (old : EngineState) (events : List Event) (replies : List (Result Answer Refusal)) (new : EngineState)
    → Run old events replies new → (rest : List Record) × (new.log ≡ old.log ++ rest)
log_of_run old [] [] new is = ([], rw is (sym (append-nil old.log)))
log_of_run old (event ∷ events) (reply ∷ replies) new run =
    let first = log_of_step old event reply run.0 run.1 in
    let next = log_of_run run.0 events replies new run.2 in (
      first.0 ++ next.0,
      next.1 ∙ ap (λ (rs : List Record). rs ++ next.0) first.1 ∙ append_assoc old.log first.0 next.0,
    )
log_of_run old [] (reply ∷ replies) new run = absurd run
log_of_run old (event ∷ events) [] new run = absurd run

-- ---- the frames

-- no step changes how many there are
pub frames_of_run : (old : EngineState) (events : List Event) (replies : List (Result Answer Refusal))
    (new : EngineState) → Run old events replies new → new.frames ≡ old.frames
frames_of_run old [] [] new is = ap (λ (s : EngineState). s.frames) is
frames_of_run old (event ∷ events) (reply ∷ replies) new run =
    frames_of_run run.0 events replies new run.2 ∙ (step_leaves old event reply run.0 run.1).frames
frames_of_run old [] (reply ∷ replies) new run = absurd run
frames_of_run old (event ∷ events) [] new run = absurd run

-- ---- a Commit

pub commit_is_forced : (old : EngineState) (txn lsn : ℕ) (new : EngineState)
    → Step old (event.Commit txn) (Ok (answer.Logged lsn)) new
    → (new.log ≡ old.log ++ log.Commit lsn txn (last_lsn old.log txn) ∷ []) × (lsn < new.forced_end)
commit_is_forced old txn lsn new step =
    let at : lsn ≡ end old = let given = step.1 in cc in
    let log_is : new.log ≡ old.log ++ commit_record old txn ∷ [] = ap (λ (s : EngineState). s.log) step.2 in
    let forced_is = ap (λ (s : EngineState). s.forced_end) step.2 in
    (rw at log_is, omega (arith, at, forced_is, length_push old.log (commit_record old txn)))

unsure_at : (old : EngineState) (txn lsn : ℕ) (new : EngineState) → refusal old (event.Commit txn) ≡ None
    → Fails old (event.Commit txn) (CommitUnsure lsn) new
    → (new.log ≡ old.log ++ log.Commit lsn txn (last_lsn old.log txn) ∷ []) × (is_open new.log txn ≡ false)
    × (new.forced_end ≤ lsn)
unsure_at old txn lsn new none fails =
    let r = commit_record old txn in
    let at = fails.0 in
    let part = fails.1 in
    let log_is : new.log ≡ old.log ++ r ∷ [] = ap (λ (s : EngineState). s.log) part.reached.2 in
    let forced_is = ap (λ (s : EngineState). s.forced_end) part.reached.2 in
    let before = part.reached.1 in (
      rw at log_is,
      rw log_is (is_open_push_own old.log r txn refl refl ∙ and-false (is_open old.log txn)),
      omega (arith, at, forced_is, length_push old.log r),
    )

-- a Commit that is not known to be forced
pub unsure_commit : (old : EngineState) (txn lsn : ℕ) (new : EngineState)
    → Step old (event.Commit txn) (Err (CommitUnsure lsn)) new
    → (new.log ≡ old.log ++ log.Commit lsn txn (last_lsn old.log txn) ∷ []) × (is_open new.log txn ≡ false)
    × (new.forced_end ≤ lsn)
unsure_commit old txn lsn new (inl both) = absurd (commit_not_unsure old txn lsn both.0)
unsure_commit old txn lsn new (inr both) = unsure_at old txn lsn new both.0 both.1

-- ---- a refusal

failed_same : (old : EngineState) (event : Event) (why : Refusal) (new : EngineState) → why ≢ LogFault
    → why ≢ StoreFault → ((lsn : ℕ) → why ≢ CommitUnsure lsn) → Fails old event why new → new ≡ old
failed_same old event OutOfMemory new no_fault no_store sure fails = fails.1
failed_same old event LogFault new no_fault no_store sure fails = absurd (no_fault refl)
failed_same old event StoreFault new no_fault no_store sure fails = absurd (no_store refl)
failed_same old event (CommitUnsure lsn) new no_fault no_store sure fails = absurd (sure lsn refl)
failed_same old event why new no_fault no_store sure fails = absurd fails

-- it changes nothing, unless it tells of the device
pub refused_same : (old : EngineState) (event : Event) (why : Refusal) (new : EngineState) → why ≢ LogFault
    → why ≢ StoreFault → ((lsn : ℕ) → why ≢ CommitUnsure lsn) → Step old event (Err why) new → new ≡ old
refused_same old event why new no_fault no_store sure (inl both) = both.1
refused_same old event why new no_fault no_store sure (inr both) = failed_same old event why new
    no_fault no_store sure both.1

-- ---- what a step may choose

-- where a refusal is due, it is the reply
pub refused_only : (old : EngineState) (event : Event) (reply : Result Answer Refusal) (new : EngineState)
    (why : Refusal) → refusal old event ≡ Some why → Step old event reply new → (reply ≡ Err why) × (new ≡ old)
refused_only old event (Ok answer) new why due step = let none = step.0 in absurd (cc)
refused_only old event (Err other) new why due (inl both) = let some = both.0 in (cc, both.1)
refused_only old event (Err other) new why due (inr both) = let none = both.0 in absurd (cc)

-- two answers are the same, and so is what stands after them
pub answered_alike : (old : EngineState) (event : Event) (a b : Answer) (new other : EngineState)
    → Step old event (Ok a) new → Step old event (Ok b) other → (a ≡ b) × (new ≡ other)
answered_alike old event a b new other first second = (first.1 ∙ sym second.1, first.2 ∙ sym second.2)
