-- Laws of stored pages, of steps and of whole runs.
use Rattle.std.proofs.Common.{◌≡◌, ℕ, ◌<◌, List, [], ◌∷◌, length, get_or, sym, ap, ◌∙◌, arith}
use Rattle.std.specs.Prelude.{Some, None, Result, Ok}
use Rattle.page_core.specs.declared.page.Page.{Page}
use Rattle.log_records.specs.Coverage.{Covers}
use Rattle.log_records.proofs.Public.{clean_is_image, dirty_covers}
use Rattle.engine_calls.specs.declared.event.Answer.{Answer}
use Rattle.engine_calls.specs.declared.event.Answer.TheVariants as answer
use Rattle.engine_calls.specs.declared.event.Event.{Event}
use Rattle.engine_calls.specs.declared.event.Event.TheVariants as event
use Rattle.engine_calls.specs.declared.refusal.Refusal.{Refusal}
use Rattle.engine_rules.specs.EngineState.{EngineState, IsFit, effect, ended_write, log_of}
use Rattle.engine_rules.specs.EngineState.{page_now, rec_lsn_of, volume_pages}
use Rattle.engine_rules.specs.Refusal.{refusal}
use Rattle.engine_rules.specs.Run.{Run}
use Rattle.engine_rules.specs.Step.{Step}
use Rattle.engine_rules.specs.Written.{with_write, written_from}
use Rattle.engine_rules.proofs.Refusals.{write_end_passes}
use Rattle.engine_rules.proofs.Steps.{step_leaves}

-- ---- the pages of a fit engine

there : (s : EngineState) (p : ℕ) → IsFit s → p < volume_pages s → p < length s.stored
there s p fit within = let count = fit.counted.stored in omega arith

pub rec_lsn_is_covered : (s : EngineState) (p rec : ℕ) (d : Page) → IsFit s → p < volume_pages s
    → rec_lsn_of s p ≡ Some rec → Covers s.log p (get_or s.stored p d) rec
rec_lsn_is_covered s p rec d fit within e =
    let is = fit.stored.pages p d (there s p fit within) in
    dirty_covers s.log p (get_or s.stored p d) (get_or s.written p 0) rec is.past is.reached e

pub clean_is_stored : (s : EngineState) (p : ℕ) (d : Page) → IsFit s → p < volume_pages s → rec_lsn_of s p ≡ None
    → get_or s.stored p d ≡ page_now s p
clean_is_stored s p d fit within e =
    let is = fit.stored.pages p d (there s p fit within) in
    clean_is_image (log_of s) p (get_or s.stored p d) (get_or s.written p 0) fit.valid is.past is.reached e

-- ---- the LSNs of the last writes

ended_written : (old : EngineState) (page : ℕ) (answer : Answer) (new : EngineState)
    → refusal old (event.WriteEnd page) ≡ None → answer ≡ (effect old (event.WriteEnd page)).answer
    → new ≡ (effect old (event.WriteEnd page)).state
    → new.written ≡ with_write old.written (event.WriteEnd page) (Ok answer)
ended_written old page reply new none given is =
    let ends = write_end_passes old page none in
    let done : new ≡ ended_write old page ends.image = rw ends.there at is in
    let said : reply ≡ answer.Written ends.image.lsn = rw ends.there at given in
    ap (λ (s : EngineState). s.written) done
    ∙ ap (λ (a : Answer). with_write old.written (event.WriteEnd page) (Ok a)) (sym said)

written_of_step : (old : EngineState) (event : Event) (reply : Result Answer Refusal) (new : EngineState)
    → Step old event reply new → new.written ≡ with_write old.written event reply
written_of_step old (event.WriteEnd page) (Ok answer) new step =
    ended_written old page answer new step.0 step.1 step.2
written_of_step old (event.Repair copy page) (Ok answer) new step =
    ap (λ (s : EngineState). s.written) step.2
    ∙ ap (λ (a : Answer). with_write old.written (event.Repair copy page) (Ok a)) (sym step.1)
written_of_step old (event.Extend count) (Ok answer) new step = ap (λ (s : EngineState). s.written) step.2
written_of_step old event reply new step = (step_leaves old event reply new step).written tt

pub written_of_run : (old : EngineState) (events : List Event) (replies : List (Result Answer Refusal))
    (new : EngineState) → Run old events replies new → new.written ≡ written_from old.written events replies
written_of_run old [] [] new is = ap (λ (s : EngineState). s.written) is
written_of_run old (event ∷ events) (reply ∷ replies) new run =
    written_of_run run.0 events replies new run.2
    ∙ ap (λ (w : List ℕ). written_from w events replies) (written_of_step old event reply run.0 run.1)
written_of_run old [] (reply ∷ replies) new run = absurd run
written_of_run old (event ∷ events) [] new run = absurd run
