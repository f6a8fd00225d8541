-- What is asked of the page store where a page is needed in memory.
use Rattle.std.proofs.Common.{◌≡◌, ℕ, ◌<◌, Bool, true, false, cond, List, length, ap, refl, subst, sym, ◌∙◌}
use Rattle.std.specs.Prelude.{Option, Some, None, IfSome, Result, Ok, Err, OnErr, OnOk, is_err}
use Rattle.std.specs.Option.{option_map_or}
use Rattle.page_core.specs.declared.page.Page.{Page}
use Rattle.page_store.specs.declared.store.StoreFault.{StoreFault}
use Rattle.page_store.specs.Store.{GrowCall, ReadCall, WriteCall}
use Rattle.buffer_pool.specs.Frames.{fetched, is_resident}
use Rattle.buffer_pool.specs.Pool.{PoolView, is_clean, state_at, written_of}
use Rattle.log_store.specs.WrittenLog.{WrittenLog}
use Rattle.engine_calls.specs.declared.event.Event.TheVariants as event
use Rattle.engine_rules.specs.Asked.{Asks, FailsAsking, a_page, asked, nothing, page_asked, to_store}
use Rattle.engine_rules.specs.EngineView.{EngineView, MediaView, engine_view}
use Rattle.engine_rules.specs.EngineState.{with_page}
use Rattle.engine_rules.specs.Uses.{AsksStore}
use Rattle.aries_core.specs.Fetching.{ReadsPage, StaysBeside, resident_with}
use Rattle.engine_rules.specs.Refusal.{refusal}
use Rattle.aries_core.proofs.PoolStates.{image_at, page_at}
use Rattle.aries_core.proofs.Uses.{was_asked}
use Rattle.engine_rules.proofs.Public.{write_end_passes}

-- what an answer that is no `Err` says, and what one that is
pub said : {T E : Type 0} (r : Result T E) (P : Type 0) → is_err r ≡ false → OnOk r P → P
said (Ok x) P ok h = h
said (Err e) P ok h = cc

pub failing : {T E : Type 0} (r : Result T E) (P : Type 0) → is_err r ≡ true → OnErr r P → P
failing (Ok x) P err h = cc
failing (Err e) P err h = h

-- ---- a page that was brought into a pool

module _ {S D : Type 0} (stored : S → List Page) (it : WrittenLog D) (pool after : PoolView S) (media : MediaView)
    (page : ℕ) (within : page < length pool.states) (rest : StaysBeside stored pool after) where
  pub brought_is : after.resident ≡ resident_with stored it.log page pool
      → (engine_view stored it after media).state ≡ with_page (engine_view stored it pool media).state page
  brought_is came =
      let clean = is_clean it.log.records (written_of pool.states) in
      let now = came
      ∙ ap (λ q. cond (is_resident pool.resident page) pool.resident (fetched pool.frames clean pool.resident q))
      (sym (page_at stored it pool media page within)) in
      rw (rest.pages, rest.frames, rest.states, now) refl

-- the image of a page whose write ends is stored
module _ {S D : Type 0} (stored : S → List Page) (gave : ReadCall S) (wrote : WriteCall S) (grew : GrowCall S) (it : WrittenLog D)
    (pool : PoolView S) (media : MediaView) (new : EngineView S D) (page : ℕ)
    (none : refusal (engine_view stored it pool media).state (event.WriteEnd page) ≡ None)
    (within : page < length pool.states) where
  here : (state_at pool page).writing
      ≡ Some (write_end_passes (engine_view stored it pool media).state page none).image
  here =
      sym (image_at stored it pool media page within)
      ∙ (write_end_passes (engine_view stored it pool media).state page none).there

  pub asks_to_store : IfSome (state_at pool page).writing (λ q. wrote pool.store page q (Ok tt) new.store)
      → Asks gave wrote grew (asked (engine_view stored it pool media).state (event.WriteEnd page))
      (engine_view stored it pool media) new
  asks_to_store done =
      subst (λ (o : Option Page). Asks gave wrote grew (option_map_or (to_store page) o nothing)
      (engine_view stored it pool media) new)
      (sym (write_end_passes (engine_view stored it pool media).state page none).there)
      (subst (λ (o : Option Page). IfSome o (λ q. wrote pool.store page q (Ok tt) new.store)) here done)

  pub fails_to_store : (why : StoreFault)
      → IfSome (state_at pool page).writing (λ q. wrote pool.store page q (Err why) new.store)
      → FailsAsking gave wrote grew (asked (engine_view stored it pool media).state (event.WriteEnd page))
      (engine_view stored it pool media) new
  fails_to_store why failed =
      subst (λ (o : Option Page). FailsAsking gave wrote grew (option_map_or (to_store page) o nothing)
      (engine_view stored it pool media) new)
      (sym (write_end_passes (engine_view stored it pool media).state page none).there)
      (why, subst (λ (o : Option Page). IfSome o (λ q. wrote pool.store page q (Err why) new.store)) here failed)

-- a page that was brought into a pool was asked for where it was not there
module _ {S D T : Type 0} (stored : S → List Page) (gave : ReadCall S) (wrote : WriteCall S) (grew : GrowCall S) (failures : S → ℕ)
    (it : WrittenLog D) (pool : PoolView S) (media : MediaView) (new : EngineView S D) (page : ℕ)
    (within : page < length pool.states) (value : T) where
  abbrev Reads : S → Type 0
  Reads after = ReadsPage gave stored failures (is_resident pool.resident page) page pool.store (Ok value) after

  asks : (there : Bool) → is_resident pool.resident page ≡ there → Reads new.store
      → Asks gave wrote grew (page_asked (engine_view stored it pool media).state page) (engine_view stored it pool media) new
  asks true is reads =
      subst (λ b. Asks gave wrote grew (cond b nothing (a_page page)) (engine_view stored it pool media) new) (sym is)
      (reads.resident is)
  asks false is reads =
      subst (λ b. Asks gave wrote grew (cond b nothing (a_page page)) (engine_view stored it pool media) new) (sym is)
      (subst (λ (q : Page). gave pool.store page (Ok q) new.store) (sym (page_at stored it pool media page within)) (reads.read is))

  pub page_was_asked : (after : S) → new.store ≡ after → Reads after
      → AsksStore gave wrote grew failures (page_asked (engine_view stored it pool media).state page)
      (engine_view stored it pool media) (Ok value) new
  page_was_asked after same reads =
      let read = subst Reads (sym same) reads in
      was_asked value (asks (is_resident pool.resident page) refl read) read.no_failure
