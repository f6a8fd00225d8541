-- The image copies of an engine, as events and replies alone tell of them.
use Rattle.std.proofs.Common.{◌≡◌, ℕ, zero, suc, ◌+◌, ◌-◌, ◌++◌, List, [], ◌∷◌, length, set, refl}
use Rattle.std.proofs.Common.{sym, ap, ◌∙◌, arith}
use Rattle.std.specs.Prelude.{Option, Result, Ok, map}
use Rattle.std.proofs.Math.ListN.{get_or-map}
use Rattle.std.proofs.lemmas.List.{length-map, map-append, map-set}
use Rattle.page_core.specs.declared.page.Page.{Page}
use Rattle.copy_vault.specs.declared.copy_id.CopyKind.{CopyKind}
use Rattle.copy_vault.specs.declared.copy_id.CopyKind.TheVariants.{Full, Inc}
use Rattle.copy_vault.specs.declared.copy_id.Decision.{Decision}
use Rattle.copy_vault.specs.declared.copy_id.Decision.TheVariants.{Taken, Kept}
use Rattle.page_decisions.specs.Decisions.{undecided}
use Rattle.copy_vault.specs.Copy.{answer_of, decided_by}
use Rattle.copy_vault.specs.Vault.{CopyState, answer_in, complete, decided_in, dropped, opened}
use Rattle.copy_vault.specs.Vault.{reading, sealed_in, since_of, state_of, with_state}
use Rattle.page_decisions.proofs.Public.{map-replicate}
use Rattle.engine_calls.specs.declared.event.Answer.{Answer}
use Rattle.engine_calls.specs.declared.event.Answer.TheVariants as answer
use Rattle.engine_calls.specs.declared.event.Event.{Event}
use Rattle.engine_calls.specs.declared.event.Event.TheVariants as event
use Rattle.engine_calls.specs.declared.refusal.Refusal.{Refusal}
use Rattle.engine_rules.specs.Catalogue.{CatalogueEntry, PageMark, answered_mark, being_read}
use Rattle.engine_rules.specs.Catalogue.{catalogue_from, completed, entry_at, entry_of, mark_of}
use Rattle.engine_rules.specs.Catalogue.{was_dropped, with_copy_event, with_entry, with_mark}
use Rattle.engine_rules.specs.Catalogue.{with_next_copy, pages_of_point}
use Rattle.engine_rules.specs.EngineState.{EngineState, effect, opened_copy, stored_page}
use Rattle.engine_rules.specs.EngineState.{take_answer}
use Rattle.engine_rules.specs.Run.{Run}
use Rattle.engine_rules.specs.Step.{Step}
use Rattle.engine_rules.proofs.CkptLaws.{IsSized, master_of_step, notes_begun, sized_step}
use Rattle.engine_rules.proofs.Steps.{step_leaves}
use Rattle.fuzzy_ckpt.specs.declared.point.Point.{Point}
use Rattle.engine_rules.specs.CkptReplies.{VolumeSize, with_point, with_size}

-- ---- copies and their entries

abbrev pub entries : List CopyState → List CatalogueEntry
entries copies = map entry_of copies

pub entry_is : (copies : List CopyState) (id : ℕ) → entry_at (entries copies) id ≡ entry_of (state_of copies id)
entry_is copies zero = refl
entry_is copies (suc k) = get_or-map entry_of copies k dropped

opens : (copies : List CopyState) (kind : CopyKind) (pages begin redo : ℕ)
    → entries (opened copies kind pages begin redo) ≡ with_next_copy (entries copies) kind pages
opens copies kind pages begin redo =
    map-append entry_of copies _
    ∙ ap (λ (ms : List PageMark). entries copies ++ being_read kind ms ∷ []) (map-replicate mark_of pages undecided)

-- the copy of an id is another one from now on, and so is its entry
changes : (copies : List CopyState) (id : ℕ) (state : CopyState) (entry : CatalogueEntry) → entry_of state ≡ entry
    → entries (with_state copies id state) ≡ with_entry (entries copies) id entry
changes copies id state entry is = map-set entry_of copies (id - 1) state ∙ ap (with_entry (entries copies) id) is

mark_is : (decision : Decision) (page : Page)
    → mark_of (decided_by decision page) ≡ answered_mark (take_answer decision page)
mark_is Taken page = refl
mark_is Kept page = refl

decides : (copies : List CopyState) (state : CopyState) (p : ℕ) (page : Page)
    → entry_of (decided_in copies state p page)
    ≡ with_mark (entry_of state) p (answered_mark (take_answer (answer_in copies state page) page))
decides copies (reading copy) p page =
    let decision = answer_of (since_of copies copy.kind) page in
    ap (being_read copy.kind) (map-set mark_of copy.pages p (decided_by decision page)
    ∙ ap (set (map mark_of copy.pages) p) (mark_is decision page))
decides copies (complete copy) p page = refl
decides copies dropped p page = refl

completes : (state : CopyState) → entry_of (sealed_in state) ≡ completed (entry_of state)
completes (reading copy) = refl
completes (complete copy) = refl
completes dropped = refl

-- ---- a step

-- the new copies are these
made : (new state : EngineState) → new ≡ state → entries new.copies ≡ entries state.copies
made new state is = ap (λ (s : EngineState). entries s.copies) is

took : (old : EngineState) (copy page : ℕ) (answer : Answer) (new : EngineState)
    → answer ≡ (effect old (event.Take copy page)).answer → new ≡ (effect old (event.Take copy page)).state
    → entries new.copies
    ≡ with_copy_event (pages_of_point old.master) (entries old.copies) (event.Take copy page) (Ok answer)
took old copy page answer new given is =
    let state = state_of old.copies copy in
    let stored = stored_page old page in
    made new _ is
    ∙ changes old.copies copy (decided_in old.copies state page stored)
    (with_mark (entry_at (entries old.copies) copy) page (answered_mark answer))
    (decides old.copies state page stored
    ∙ ap (λ (a : Answer). with_mark (entry_of state) page (answered_mark a)) (sym given)
    ∙ ap (λ (e : CatalogueEntry). with_mark e page (answered_mark answer)) (sym (entry_is old.copies copy)))

pub copies_of_step : (old : EngineState) (event : Event) (reply : Result Answer Refusal) (new : EngineState)
    → Step old event reply new
    → entries new.copies ≡ with_copy_event (pages_of_point old.master) (entries old.copies) event reply
copies_of_step old event.CopyFull (Ok answer) new step = made new _ step.2 ∙ opens old.copies Full _ _ _
copies_of_step old (event.CopyInc parent) (Ok answer) new step = made new _ step.2 ∙ opens old.copies (Inc parent) _ _ _
copies_of_step old (event.Take copy page) (Ok answer) new step = took old copy page answer new step.1 step.2
copies_of_step old (event.Seal copy) (Ok answer) new step =
    made new _ step.2
    ∙ changes old.copies copy (sealed_in (state_of old.copies copy)) (completed (entry_at (entries old.copies) copy))
    (completes (state_of old.copies copy) ∙ ap completed (sym (entry_is old.copies copy)))
copies_of_step old (event.DropCopy copy) (Ok answer) new step =
    made new _ step.2 ∙ changes old.copies copy dropped was_dropped refl
copies_of_step old event reply new step = ap entries ((step_leaves old event reply new step).copies tt)

-- the id that a new copy gets
pub next_id : (old : EngineState) (kind : CopyKind) (id : ℕ)
    → answer.Copied id ≡ (opened_copy old kind).answer → id ≡ length (entries old.copies) + 1
next_id old kind id given =
    let same : id ≡ length old.copies + 1 = cc in
    omega (arith, same, length-map old.copies entry_of)

-- ---- a run

pub copies_of_run : (old : EngineState) (size : VolumeSize) (events : List Event)
    (replies : List (Result Answer Refusal)) (new : EngineState) → IsSized old size → Run old events replies new
    → entries new.copies ≡ catalogue_from size old.master (entries old.copies) events replies
copies_of_run old size [] [] new sized is = ap (λ (s : EngineState). entries s.copies) is
copies_of_run old size (event ∷ events) (reply ∷ replies) new sized run =
    let next = with_size size event reply in
    copies_of_run run.0 next events replies new (sized_step old size event reply run.0 sized run.1) run.2
    ∙ ap (λ (m : Option Point). catalogue_from next m (entries run.0.copies) events replies)
    (master_of_step old size event reply run.0 (notes_begun old size sized) run.1)
    ∙ ap (λ (es : List CatalogueEntry). catalogue_from next (with_point size old.master event reply) es events replies)
    (copies_of_step old event reply run.0 run.1)
copies_of_run old size [] (reply ∷ replies) new sized run = absurd run
copies_of_run old size (event ∷ events) [] new sized run = absurd run
