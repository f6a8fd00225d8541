-- What a call of the engine asks of the page store.
use Rattle.std.specs.Prelude.{ℕ, ◌≡◌, Ok, Err, if◌then◌else◌}
use Rattle.std.specs.Option.{option_map_or}
use Rattle.page_core.specs.declared.page.Page.{Page}
use Rattle.page_store.specs.declared.store.StoreFault.{StoreFault}
use Rattle.page_store.specs.Store.{GrowCall, ReadCall, WriteCall}
use Rattle.buffer_pool.specs.Frames.{is_resident}
use Rattle.engine_calls.specs.declared.event.Event.{Event}
use Rattle.engine_calls.specs.declared.event.Event.TheVariants as event
use Rattle.engine_rules.specs.EngineState.{EngineState, image_of, page_needed, page_now}
use Rattle.engine_rules.specs.EngineView.{EngineView}
use Rattle.engine_rules.specs.EngineState.{stored_page}

-- a page, or to store one, or to have so many pages, or nothing
pub data Asked : Type 0 where
  a_page : ℕ → Asked
  to_store : ℕ → Page → Asked
  to_grow : ℕ → Asked
  nothing : Asked

-- where a page is needed in memory: that page, if it is not there
abbrev pub page_asked : EngineState → ℕ → Asked
page_asked s page = if is_resident s.resident page then nothing else a_page page

abbrev pub asked : EngineState → Event → Asked
asked s (event.WriteEnd page) = option_map_or (to_store page) (image_of s page) nothing
asked s (event.Take copy page) = a_page page
asked s (event.Repair copy page) = to_store page (page_now s page)
asked s (event.Extend count) = to_grow count
asked s other = option_map_or (page_asked s) (page_needed s other) nothing

-- it was asked by one call of the store, which gave the stored page, stored one or grew; where nothing
-- was asked, no call was made
abbrev pub Asks : {S D : Type 0} → ReadCall S → WriteCall S → GrowCall S → Asked → EngineView S D
    → EngineView S D → Type 0
Asks gave wrote grew (a_page n) old new = gave old.store n (Ok (stored_page old.state n)) new.store
Asks gave wrote grew (to_store n page) old new = wrote old.store n page (Ok tt) new.store
Asks gave wrote grew (to_grow count) old new = grew old.store count (Ok tt) new.store
Asks gave wrote grew nothing old new = new.store ≡ old.store

-- it was asked by one call of the store, which failed
abbrev pub FailsAsking : {S D : Type 0} → ReadCall S → WriteCall S → GrowCall S → Asked → EngineView S D
    → EngineView S D → Type 0
FailsAsking gave wrote grew (a_page n) old new =
    (why : StoreFault) × gave old.store n (Err why) new.store
FailsAsking gave wrote grew (to_store n page) old new =
    (why : StoreFault) × wrote old.store n page (Err why) new.store
FailsAsking gave wrote grew (to_grow count) old new =
    (why : StoreFault) × grew old.store count (Err why) new.store
FailsAsking gave wrote grew nothing old new = ⊥
