-- Calls that change the copies of an engine and nothing else.
use Rattle.std.proofs.Common.{◌≡◌, ℕ, ◌+◌, ◌<◌, List, length, refl, sym, ap, ◌∙◌}
use Rattle.std.specs.Prelude.{Option, Some, None, Result, Ok}
use Rattle.std.specs.Option.{option_map, option_map_or}
use Rattle.page_core.specs.declared.page.Page.{Page}
use Rattle.buffer_pool.specs.Pool.{IsPoolOf, PoolView}
use Rattle.log_rules.specs.Table.{Table}
use Rattle.log_store.specs.WrittenLog.{WrittenLog}
use Rattle.fuzzy_ckpt.specs.declared.point.Point.{Point}
use Rattle.copy_vault.specs.declared.copy_id.CopyKind.TheVariants.{Full, Inc}
use Rattle.copy_vault.specs.declared.copy_id.Decision.{Decision}
use Rattle.copy_vault.specs.declared.fault.CopyFault.{CopyFault}
use Rattle.copy_vault.specs.Copy.{CopyView}
use Rattle.copy_vault.specs.Vault.{CopyState, answer_in, complete, decided, drop_refusal, dropped, inc_refusal}
use Rattle.copy_vault.specs.Vault.{open_refusal}
use Rattle.copy_vault.specs.Vault.{opened, pages_read, reading, reading_of, seal_refusal, sealed, state_of}
use Rattle.copy_vault.specs.Vault.{taken_in, without}
use Rattle.engine_calls.specs.declared.event.Answer.{Answer}
use Rattle.engine_calls.specs.declared.event.Answer.TheVariants as answer
use Rattle.engine_calls.specs.declared.event.Event.{Event}
use Rattle.engine_calls.specs.declared.event.Event.TheVariants as event
use Rattle.engine_calls.specs.declared.refusal.Refusal.{Refusal}
use Rattle.engine_rules.specs.EngineState.{EngineState, stored_page}
use Rattle.engine_rules.specs.EngineView.{IsConsistent, MediaView, engine_view}
use Rattle.engine_rules.specs.EngineState.{take_answer, with_copies}
use Rattle.engine_calls.specs.EventFits.{EventFits}
use Rattle.engine_rules.specs.Refusal.{refusal}
use Rattle.engine_calls.specs.Refusal.{of_vault}
use Rattle.engine_rules.specs.Step.{Step}
use Rattle.engine_rules.proofs.Public.{fit_of_step}
use Rattle.engine_rules.proofs.Public.{take_passes}

-- the engine is kept, and the pool may have asked its store
pub copies_kept : {S D : Type 0} (stored : S → List Page) (it : WrittenLog D) (table : Table) (pool after : PoolView S)
    (media : MediaView) (copies : List CopyState) (call : Event) (reply : Result Answer Refusal)
    → IsConsistent stored (engine_view stored it pool media).state table pool media → EventFits call
    → IsPoolOf stored it.log after
    → Step (engine_view stored it pool media).state call reply
    (engine_view stored it after (record media { copies = copies })).state
    → IsConsistent stored (engine_view stored it after (record media { copies = copies })).state table after
    (record media { copies = copies })
copies_kept stored it table pool after media copies call reply kept fits is step = record {
  fit = fit_of_step (engine_view stored it pool media).state call reply
      (engine_view stored it after (record media { copies = copies })).state kept.fit fits step;
  table_of_log = kept.table_of_log;
  pool_of_log = is;
  session_of_log = kept.session_of_log;
  returns_of_log = kept.returns_of_log;
}

no_fault : (o : Option CopyFault) → o ≡ None → option_map of_vault o ≡ None
no_fault o is = ap (option_map of_vault) is

-- ---- each of them is a step

pub full_step : (s : EngineState) (copies : List CopyState) (id : ℕ) (point : Point) → s.master ≡ Some point
    → open_refusal s.copies ≡ None → id ≡ length s.copies + 1
    → copies ≡ opened s.copies Full point.pages point.begin point.redo
    → Step s event.CopyFull (Ok (answer.Copied id)) (with_copies s copies)
full_step s copies id point master fine given made = (
  rw master (no_fault (open_refusal s.copies) fine),
  ap answer.Copied given,
  ap (with_copies s) (made
      ∙ ap (λ (o : Option Point). opened s.copies Full (option_map_or (λ p. p.pages) o 0)
      (option_map_or (λ p. p.begin) o 0) (option_map_or (λ p. p.redo) o 0))
      (sym master)),
)

pub inc_step : (s : EngineState) (copies : List CopyState) (parent pages begin redo id : ℕ)
    → inc_refusal s.copies parent ≡ None → pages ≡ option_map_or (λ p. p.pages) s.master 0
    → begin ≡ option_map_or (λ p. p.begin) s.master 0 → redo ≡ option_map_or (λ p. p.redo) s.master 0
    → id ≡ length s.copies + 1 → copies ≡ opened s.copies (Inc parent) pages begin redo
    → Step s (event.CopyInc parent) (Ok (answer.Copied id)) (with_copies s copies)
inc_step s copies parent pages begin redo id fine same begin_is redo_is given made = (
  no_fault (inc_refusal s.copies parent) fine,
  ap answer.Copied given,
  ap (with_copies s) (made ∙ ap (λ (n : ℕ). opened s.copies (Inc parent) n begin redo) same
      ∙ ap (λ (n : ℕ). opened s.copies (Inc parent) (option_map_or (λ p. p.pages) s.master 0) n redo) begin_is
      ∙ ap (opened s.copies (Inc parent) (option_map_or (λ p. p.pages) s.master 0)
      (option_map_or (λ p. p.begin) s.master 0)) redo_is),
)

pub seal_step : (s : EngineState) (copies : List CopyState) (copy taken : ℕ)
    → seal_refusal (state_of s.copies copy) ≡ None → taken ≡ taken_in (state_of s.copies copy)
    → copies ≡ sealed s.copies copy → Step s (event.Seal copy) (Ok (answer.Sealed taken)) (with_copies s copies)
seal_step s copies copy taken fine given made =
    (no_fault (seal_refusal (state_of s.copies copy)) fine, ap answer.Sealed given, ap (with_copies s) made)

pub drop_step : (s : EngineState) (copies : List CopyState) (copy : ℕ) → drop_refusal (state_of s.copies copy) ≡ None
    → copies ≡ without s.copies copy → Step s (event.DropCopy copy) (Ok answer.Dropped) (with_copies s copies)
drop_step s copies copy fine made =
    (no_fault (drop_refusal (state_of s.copies copy)) fine, refl, ap (with_copies s) made)

pub take_step : (s : EngineState) (copies : List CopyState) (copy p : ℕ) (page : Page) (decision : Decision)
    (given : Answer) → refusal s (event.Take copy p) ≡ None → stored_page s p ≡ page
    → decision ≡ answer_in s.copies (state_of s.copies copy) page → copies ≡ decided s.copies copy p page
    → given ≡ take_answer decision page → Step s (event.Take copy p) (Ok given) (with_copies s copies)
take_step s copies copy p page decision given none same answer_is made given_is = (
  none,
  given_is ∙ ap (λ (d : Decision). take_answer d page) answer_is
      ∙ ap (λ (q : Page). take_answer (answer_in s.copies (state_of s.copies copy) q) q) (sym same),
  ap (with_copies s) (made ∙ ap (decided s.copies copy p) (sym same)),
)

-- ---- the pages of a copy that is being read

-- a page that is to be taken is one of the copy's
pub take_room : (s : EngineState) (copies : List CopyState) (copy p : ℕ)
    → refusal s (event.Take copy p) ≡ None → copies ≡ s.copies → p < length (pages_read (state_of copies copy))
take_room s copies copy p none same =
    let passes = take_passes s copy p none in
    rw (same, passes.is_read) passes.within

-- the pool has asked its store, and has left it as it was
pub asked_is : {S D : Type 0} (stored : S → List Page) (it : WrittenLog D) (pool after : PoolView S) (media : MediaView)
    (copies : List CopyState) → stored after.store ≡ stored pool.store → after ≡ record pool { store = after.store }
    → (engine_view stored it after (record media { copies = copies })).state
    ≡ with_copies (engine_view stored it pool media).state copies
asked_is stored it pool after media copies same rest =
    let resident = ap (λ v. v.resident) rest in
    let states = ap (λ v. v.states) rest in
    let frames = ap (λ v. v.frames) rest in
    rw (same, frames, resident, states) refl
