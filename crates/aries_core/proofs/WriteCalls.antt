-- The calls that write a page: what they make of an engine that is in step with its pool.
use Rattle.std.proofs.Common.{take, ◌≡◌, ℕ, ◌<◌, ◌≤◌, List, length, get_or, set, refl, sym, ap, subst, ◌∙◌, arith, max, inl}
use Rattle.std.proofs.Common.{inr}
use Rattle.std.specs.Prelude.{Option, Some, None, IfSome, Result, Ok, Err}
use Rattle.page_core.specs.declared.page.Page.{Page}
use Rattle.page_store.specs.Store.{StoresOrKeeps}
use Rattle.std.proofs.lemmas.List.Elements.{All-weaker}
use Rattle.buffer_pool.specs.Pool.{IsPoolOf, PoolView, state_at, with_state, write_begun, write_ended, writing_of}
use Rattle.log_records.specs.Image.{image}
use Rattle.log_rules.specs.Table.{Table}
use Rattle.log_records.specs.Log.{page_count}
use Rattle.log_store.specs.WrittenLog.{EndsAtRecord, WrittenLog, end_up_to}
use Rattle.engine_calls.specs.declared.event.Answer.{Answer}
use Rattle.engine_calls.specs.declared.event.Answer.TheVariants as answer
use Rattle.engine_calls.specs.declared.event.Event.{Event}
use Rattle.engine_calls.specs.declared.event.Event.TheVariants as event
use Rattle.engine_calls.specs.declared.refusal.Refusal.{Refusal}
use Rattle.engine_calls.specs.declared.refusal.Refusal.TheVariants.{StoreFault}
use Rattle.engine_rules.specs.EngineState.{begun_write, effect, ended_write}
use Rattle.engine_rules.specs.EngineView.{MediaView, IsConsistent, engine_view}
use Rattle.engine_rules.specs.EngineState.{forced_through}
use Rattle.engine_calls.specs.EventFits.{EventFits}
use Rattle.copy_coverage.proofs.Public.{copied_forced}
use Rattle.engine_rules.specs.Refusal.{refusal}
use Rattle.engine_rules.specs.Step.{MayBeStored, Step}
use Rattle.engine_rules.proofs.Public.{master_forced}
use Rattle.engine_rules.proofs.Public.{fit_of_step, room_forced}
use Rattle.aries_core.proofs.PoolStates.{begun_is, ended_is, image_at, kept_is, repeated_is}
use Rattle.engine_rules.proofs.Public.{write_end_passes}

-- what a call says of the state after it: it is a step, and the engine is in step with its pool
pub record Called {S D : Type 0} (stored : S → List Page) (it new : WrittenLog D) (table : Table)
    (pool after : PoolView S) (ckpts : MediaView) (call : Event) (reply : Result Answer Refusal) : Type 0 where
  pub step : Step (engine_view stored it pool ckpts).state call reply (engine_view stored new after ckpts).state
  pub kept : IsConsistent stored (engine_view stored new after ckpts).state table after ckpts

-- a step that leaves the log and the table
pub called : {S D : Type 0} (stored : S → List Page) (it new : WrittenLog D) (table : Table)
    (pool after : PoolView S) (ckpts : MediaView)
    (call : Event) (reply : Result Answer Refusal)
    → IsConsistent stored (engine_view stored it pool ckpts).state table pool ckpts
    → EventFits call → new.log ≡ it.log
    → Step (engine_view stored it pool ckpts).state call reply (engine_view stored new after ckpts).state
    → IsPoolOf stored it.log after → Called stored it new table pool after ckpts call reply
called stored it new table pool after ckpts call reply kept fits same step is = record {
  step = step;
  kept = record {
    fit = fit_of_step (engine_view stored it pool ckpts).state call reply
        (engine_view stored new after ckpts).state kept.fit fits
        step;
    table_of_log = rw same kept.table_of_log;
    pool_of_log = rw same is;
    session_of_log = rw same kept.session_of_log;
    returns_of_log = rw same kept.returns_of_log;
  };
}

-- ---- the log is forced further, while all else stays

pub force_kept : {S D : Type 0} (stored : S → List Page) (it new : WrittenLog D) (table : Table) (pool : PoolView S)
    (ckpts : MediaView) → IsConsistent stored (engine_view stored it pool ckpts).state table pool ckpts → new.log ≡ it.log
    → it.forced_end ≤ new.forced_end → EndsAtRecord new
    → IsConsistent stored (engine_view stored new pool ckpts).state table pool ckpts
force_kept stored it new table pool ckpts kept same no_less ends =
    let fit = kept.fit in
    record {
      fit = record {
        valid = rw same fit.valid;
        linked = rw same fit.linked;
        room = rw same (room_forced it.log.records it.forced_end new.forced_end no_less fit.room);
        forced = ends;
        counted = record {
          stored = omega (arith, fit.counted.stored, ap page_count same);
          written = fit.counted.written ∙ ap page_count (sym same);
          writing = fit.counted.writing ∙ ap page_count (sym same);
        };
        resident = rw same fit.resident;
        held = rw same fit.held;
        stored = rw same fit.stored;
        stable = record {
          pages = All-weaker (λ page. page.lsn < it.forced_end) (λ page. page.lsn < new.forced_end)
              (λ page low. omega arith) (take (length pool.states) (stored pool.store)) fit.stable.pages;
          images = λ p. image_below (get_or (writing_of pool.states) p None) (fit.stable.images p);
        };
        gathered = rw same fit.gathered;
        master = rw same (master_forced it.log (take (length pool.states) (stored pool.store)) it.forced_end
            new.forced_end ckpts.master no_less
            fit.master);
        copied = rw same (copied_forced it.log it.forced_end new.forced_end
            (take (length pool.states) (stored pool.store)) ckpts.copies no_less
            fit.copied);
        noted = fit.noted;
      };
      table_of_log = rw same kept.table_of_log;
      pool_of_log = rw same kept.pool_of_log;
      session_of_log = rw same kept.session_of_log;
      returns_of_log = rw same kept.returns_of_log;
    }
  where
    image_below : (o : Option Page) → IfSome o (λ image. image.lsn < it.forced_end)
        → IfSome o (λ image. image.lsn < new.forced_end)
    image_below None below = tt
    image_below (Some image) below = omega arith

-- ---- a write begins

pub begun : {S D : Type 0} (stored : S → List Page) (it new : WrittenLog D) (table : Table)
    (pool after : PoolView S) (ckpts : MediaView)
    (p lsn : ℕ) (q : Page) → IsConsistent stored (engine_view stored it pool ckpts).state table pool ckpts
    → refusal (engine_view stored it pool ckpts).state (event.WriteBegin p) ≡ None → p < length pool.states
    → q ≡ image it.log.records p → lsn ≡ q.lsn → new.log ≡ it.log
    → new.forced_end ≡ max it.forced_end (end_up_to it.log q.lsn)
    → after ≡ with_state pool p (write_begun (state_at pool p) q) → IsPoolOf stored it.log after
    → Called stored it new table pool after ckpts (event.WriteBegin p) (Ok (answer.Writing lsn))
begun stored it new table pool after ckpts p lsn q kept none within now at same forced is of_log =
    let s = (engine_view stored it pool ckpts).state in
    let state : (engine_view stored new after ckpts).state ≡ begun_write (forced_through s q.lsn) p q =
    ap (λ v. (engine_view stored new v ckpts).state) is ∙ begun_is stored it new pool ckpts p q within same forced in
    let effected : (engine_view stored new after ckpts).state ≡ (effect s (event.WriteBegin p)).state =
    state ∙ ap (λ (x : Page). begun_write (forced_through s x.lsn) p x) now in
    let said : answer.Writing lsn ≡ (effect s (event.WriteBegin p)).answer =
    ap answer.Writing (at ∙ ap (λ (x : Page). x.lsn) now) in
    called stored it new table pool after ckpts (event.WriteBegin p) (Ok (answer.Writing lsn)) kept tt same
    (none, said, effected) of_log

-- ---- a write ends

of_image : (o : Option Page) (P : Page → Type 0) (q : Page) → o ≡ Some q → IfSome o P → P q
of_image o P q is h = subst (λ (o : Option Page). IfSome o P) is h

pub ended : {S D : Type 0} (stored : S → List Page) (it : WrittenLog D) (table : Table)
    (pool after : PoolView S) (ckpts : MediaView)
    (p lsn : ℕ) → IsConsistent stored (engine_view stored it pool ckpts).state table pool ckpts
    → refusal (engine_view stored it pool ckpts).state (event.WriteEnd p) ≡ None → p < length pool.states
    → IfSome (state_at pool p).writing (λ q. lsn ≡ q.lsn)
    → IfSome (state_at pool p).writing (λ q. stored after.store ≡ set (stored pool.store) p q)
    → IfSome (state_at pool p).writing (λ q. after ≡ record (with_state pool p (write_ended (state_at pool p) q.lsn)) {
      store = after.store;
    })
    → IsPoolOf stored it.log after
    → Called stored it it table pool after ckpts (event.WriteEnd p) (Ok (answer.Written lsn))
ended stored it table pool after ckpts p lsn kept none within at store states of_log =
    let s = (engine_view stored it pool ckpts).state in
    let ends = write_end_passes s p none in
    let q = ends.image in
    let here : (state_at pool p).writing ≡ Some q = sym (image_at stored it pool ckpts p within) ∙ ends.there in
    let lsn_is : lsn ≡ q.lsn = of_image (state_at pool p).writing (λ q. lsn ≡ q.lsn) q here at in
    let stored_is : stored after.store ≡ set (stored pool.store) p q =
    of_image (state_at pool p).writing (λ q. stored after.store ≡ set (stored pool.store) p q) q here store in
    let is : after ≡ record (with_state pool p (write_ended (state_at pool p) q.lsn)) { store = after.store } =
    of_image (state_at pool p).writing
    (λ q. after ≡ record (with_state pool p (write_ended (state_at pool p) q.lsn))
    { store = after.store }) q here states in
    let state : (engine_view stored it after ckpts).state ≡ ended_write s p q =
    ended_is stored it pool after ckpts p q within stored_is (ap (λ v. v.frames) is) (ap (λ v. v.resident) is)
    (ap (λ v. v.states) is) in
    let effected : (engine_view stored it after ckpts).state ≡ (effect s (event.WriteEnd p)).state =
    rw ends.there state in
    let said : answer.Written lsn ≡ (effect s (event.WriteEnd p)).answer = rw ends.there (ap answer.Written lsn_is) in
    called stored it it table pool after ckpts (event.WriteEnd p) (Ok (answer.Written lsn)) kept tt refl
    (none, said, effected) of_log

pub repeated : {S D : Type 0} (stored : S → List Page) (it : WrittenLog D) (table : Table)
    (pool after : PoolView S) (ckpts : MediaView)
    (p : ℕ) → IsConsistent stored (engine_view stored it pool ckpts).state table pool ckpts
    → refusal (engine_view stored it pool ckpts).state (event.WriteEnd p) ≡ None → p < length pool.states
    → IfSome (state_at pool p).writing (λ q. StoresOrKeeps (stored pool.store) p q (stored after.store))
    → after ≡ record pool { store = after.store }
    → IsPoolOf stored it.log after → Called stored it it table pool after ckpts (event.WriteEnd p) (Err StoreFault)
repeated stored it table pool after ckpts p kept none within either goes_on of_log =
    let s = (engine_view stored it pool ckpts).state in
    let ends = write_end_passes s p none in
    let q = ends.image in
    let here : (state_at pool p).writing ≡ Some q = sym (image_at stored it pool ckpts p within) ∙ ends.there in
    let frames = ap (λ v. v.frames) goes_on in
    let resident = ap (λ v. v.resident) goes_on in
    let states = ap (λ v. v.states) goes_on in
    let may : MayBeStored p s (engine_view stored it after ckpts).state =
    rw ends.there (elim (of_image (state_at pool p).writing
    (λ q. StoresOrKeeps (stored pool.store) p q (stored after.store)) q here either) [
      | inl stores ↦ inr (repeated_is stored it pool after ckpts p q within stores frames resident states)
      | inr keeps ↦ inl (kept_is stored it pool after ckpts keeps frames resident states)
    ]) in
    called stored it it table pool after ckpts (event.WriteEnd p) (Err StoreFault) kept tt refl
    (inr (none, may)) of_log
