-- The repair of a page: what it makes of an engine that is in step with its pool.
use Rattle.std.proofs.Common.{◌≡◌, ℕ, ◌<◌, ◌≤◌, List, length, set, refl, sym, ap, subst, ◌∙◌, max, inl}
use Rattle.std.proofs.Common.{inr}
use Rattle.std.specs.Prelude.{None, Ok, Err}
use Rattle.std.proofs.lemmas.List.{get_or-map, length-set, map-set, set-get_or}
use Rattle.page_core.specs.declared.page.Page.{Page}
use Rattle.page_store.specs.Store.{StoresOrKeeps}
use Rattle.log_records.specs.Coverage.{Covers}
use Rattle.log_records.specs.Image.{image}
use Rattle.log_rules.specs.Table.{Table}
use Rattle.log_store.specs.WrittenLog.{EndsAtRecord, WrittenLog, end_up_to}
use Rattle.copy_vault.specs.Chain.{IsChain, content, last_redo}
use Rattle.copy_vault.specs.ChainOf.{IsChainOf}
use Rattle.copy_vault.specs.Copy.{CopyView}
use Rattle.copy_coverage.proofs.Public.{covered_of_members}
use Rattle.copy_coverage.proofs.Public.{restorable}
use Rattle.buffer_pool.specs.Pool.{IsPoolOf, PoolView, stored_as_now, state_at, unwritten, with_state, writing_of, written_of}
use Rattle.engine_calls.specs.declared.event.Answer.TheVariants as answer
use Rattle.engine_calls.specs.declared.event.Event.TheVariants as event
use Rattle.engine_calls.specs.declared.refusal.Refusal.TheVariants.{LogFault, StoreFault}
use Rattle.engine_rules.specs.EngineState.{EngineState, IsFit, effect, forced_through}
use Rattle.engine_rules.specs.EngineView.{IsConsistent, MediaView, engine_view}
use Rattle.engine_rules.specs.EngineState.{log_of, with_stored}
use Rattle.engine_rules.specs.EngineState as engine
use Rattle.engine_rules.specs.Refusal.{refusal}
use Rattle.engine_rules.specs.Repair.{MayBeRepaired}
use Rattle.engine_rules.specs.Step.{Step}
use Rattle.aries_core.proofs.PoolStates.{image_at, stored_set}
use Rattle.engine_rules.proofs.Public.{repair_passes}
use Rattle.aries_core.proofs.WriteCalls.{Called, called}

-- ---- what a chain has

-- the pages of a complete copy's chain lack nothing below its redo point
pub chain_covers : (s : EngineState) (copy p : ℕ) (members : List CopyView) → IsFit s → IsChain members
    → IsChainOf s.copies copy members → Covers s.log p (content members p) (last_redo members)
chain_covers s copy p members fit chain of_id =
    (covered_of_members (log_of s) s.forced_end s.copies copy members p
    (restorable (log_of s) s.forced_end s.stored s.copies fit.copied) chain of_id).covers

-- ---- the state after it

pub repaired_is : {S D : Type 0} (stored : S → List Page) (it new : WrittenLog D) (pool after : PoolView S)
    (ckpts : MediaView) (p : ℕ) (q : Page) → p < length pool.states → (state_at pool p).writing ≡ None
    → new.log ≡ it.log → new.forced_end ≡ max it.forced_end (end_up_to it.log q.lsn)
    → stored after.store ≡ set (stored pool.store) p q → after.frames ≡ pool.frames
    → after.resident ≡ pool.resident → after.states ≡ set pool.states p (stored_as_now q.lsn)
    → (engine_view stored new after ckpts).state
    ≡ engine.repaired (forced_through (engine_view stored it pool ckpts).state q.lsn) p q
repaired_is stored it new pool after ckpts p q within idle same forced store frames resident states =
    let state = stored_as_now q.lsn in
    let written : written_of after.states ≡ set (written_of pool.states) p q.lsn =
    ap written_of states ∙ map-set (λ s. s.written) pool.states p state in
    let writing : writing_of after.states ≡ writing_of pool.states =
    ap writing_of states ∙ map-set (λ s. s.writing) pool.states p state
    ∙ ap (set (writing_of pool.states) p)
    (sym (get_or-map (λ s. s.writing) pool.states p unwritten None within ∙ idle))
    ∙ set-get_or (writing_of pool.states) p None in
    let pages = stored_set stored pool after p q within (ap length states ∙ length-set pool.states p state) store in
    rw (same, forced, pages, frames, resident, written, writing) refl

pub stored_is : {S D : Type 0} (stored : S → List Page) (it new : WrittenLog D) (pool after : PoolView S)
    (ckpts : MediaView) (p : ℕ) (q : Page) → p < length pool.states → new.log ≡ it.log
    → new.forced_end ≡ max it.forced_end (end_up_to it.log q.lsn)
    → stored after.store ≡ set (stored pool.store) p q → after.frames ≡ pool.frames
    → after.resident ≡ pool.resident → after.states ≡ pool.states
    → (engine_view stored new after ckpts).state
    ≡ with_stored (forced_through (engine_view stored it pool ckpts).state q.lsn) p q
stored_is stored it new pool after ckpts p q within same forced store frames resident states =
    let pages = stored_set stored pool after p q within (ap length states) store in
    rw (same, forced, pages, frames, resident, states) refl

pub forced_is : {S D : Type 0} (stored : S → List Page) (it new : WrittenLog D) (pool after : PoolView S)
    (ckpts : MediaView) (lsn : ℕ) → new.log ≡ it.log
    → new.forced_end ≡ max it.forced_end (end_up_to it.log lsn)
    → stored after.store ≡ stored pool.store → after.frames ≡ pool.frames → after.resident ≡ pool.resident
    → after.states ≡ pool.states
    → (engine_view stored new after ckpts).state ≡ forced_through (engine_view stored it pool ckpts).state lsn
forced_is stored it new pool after ckpts lsn same forced store frames resident states =
    rw (same, forced, store, frames, resident, states) refl

-- ---- the call

pub done : {S D : Type 0} (stored : S → List Page) (it new : WrittenLog D) (table : Table)
    (pool after : PoolView S) (ckpts : MediaView) (copy p : ℕ) (q : Page)
    → IsConsistent stored (engine_view stored it pool ckpts).state table pool ckpts
    → refusal (engine_view stored it pool ckpts).state (event.Repair copy p) ≡ None → p < length pool.states
    → q ≡ image it.log.records p → new.log ≡ it.log
    → new.forced_end ≡ max it.forced_end (end_up_to it.log q.lsn)
    → stored after.store ≡ set (stored pool.store) p q
    → after ≡ record (with_state pool p (stored_as_now q.lsn)) { store = after.store } → IsPoolOf stored it.log after
    → Called stored it new table pool after ckpts (event.Repair copy p) (Ok (answer.Repaired q.lsn))
done stored it new table pool after ckpts copy p q kept none within now same forced store is of_log =
    let s = (engine_view stored it pool ckpts).state in
    let idle = sym (image_at stored it pool ckpts p within) ∙ (repair_passes s copy p none).idle in
    let state = repaired_is stored it new pool after ckpts p q within idle same forced store
    (ap (λ v. v.frames) is) (ap (λ v. v.resident) is) (ap (λ v. v.states) is) in
    let effected : (engine_view stored new after ckpts).state ≡ (effect s (event.Repair copy p)).state =
    state ∙ ap (λ (x : Page). engine.repaired (forced_through s x.lsn) p x) now in
    let said : answer.Repaired q.lsn ≡ (effect s (event.Repair copy p)).answer =
    ap (λ (x : Page). answer.Repaired x.lsn) now in
    called stored it new table pool after ckpts (event.Repair copy p) (Ok (answer.Repaired q.lsn)) kept tt same
    (none, said, effected) of_log

pub half_done : {S D : Type 0} (stored : S → List Page) (it new : WrittenLog D) (table : Table)
    (pool after : PoolView S) (ckpts : MediaView) (copy p : ℕ) (q : Page)
    → IsConsistent stored (engine_view stored it pool ckpts).state table pool ckpts
    → refusal (engine_view stored it pool ckpts).state (event.Repair copy p) ≡ None → p < length pool.states
    → q ≡ image it.log.records p → new.log ≡ it.log
    → new.forced_end ≡ max it.forced_end (end_up_to it.log q.lsn)
    → StoresOrKeeps (stored pool.store) p q (stored after.store)
    → after ≡ record pool { store = after.store } → IsPoolOf stored it.log after
    → Called stored it new table pool after ckpts (event.Repair copy p) (Err StoreFault)
half_done stored it new table pool after ckpts copy p q kept none within now same forced either is of_log =
    let s = (engine_view stored it pool ckpts).state in
    let frames = ap (λ v. v.frames) is in
    let resident = ap (λ v. v.resident) is in
    let states = ap (λ v. v.states) is in
    let may : MayBeRepaired p s (engine_view stored new after ckpts).state = elim either [
      | inl stores ↦ inr (stored_is stored it new pool after ckpts p q within same forced stores frames resident states
          ∙ ap (λ (x : Page). with_stored (forced_through s x.lsn) p x) now)
      | inr keeps ↦ inl (forced_is stored it new pool after ckpts q.lsn same forced keeps frames resident states
          ∙ ap (λ (x : Page). forced_through s x.lsn) now)
    ] in
    called stored it new table pool after ckpts (event.Repair copy p) (Err StoreFault) kept tt same
    (inr (none, may)) of_log

-- the log is not forced through the page's LSN
pub not_forced : {S D : Type 0} (stored : S → List Page) (it new : WrittenLog D) (pool : PoolView S) (media : MediaView)
    (copy p : ℕ) (q : Page) → refusal (engine_view stored it pool media).state (event.Repair copy p) ≡ None
    → q ≡ image it.log.records p → new.log ≡ it.log → it.forced_end ≤ new.forced_end → EndsAtRecord new
    → new.forced_end < end_up_to it.log q.lsn
    → Step (engine_view stored it pool media).state (event.Repair copy p) (Err LogFault)
    (engine_view stored new pool media).state
not_forced stored it new pool media copy p q none now same rising at_record short =
    inr (
      none,
      record {
        reached = (
          at_record.0,
          subst (λ (n : ℕ). n < end_up_to it.log (image it.log.records p).lsn) at_record.2
              (subst (λ (x : Page). new.forced_end < end_up_to it.log x.lsn) now short),
          rw (same, at_record.2) refl,
        );
        no_less = rising;
      },
    )
