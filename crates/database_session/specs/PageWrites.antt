-- Pages that are written, and what is dirty behind that.
use Rattle.std.specs.Prelude.{ℕ, ◌≡◌, ◌≢◌, [], None}
use Rattle.std.specs.Option.{option_map_or}
use Rattle.log_records.specs.Coverage.{dirty}
use Rattle.engine_calls.specs.declared.event.Event.TheVariants.{WriteBegin}
use Rattle.engine_rules.specs.EngineState.{EngineState, effect, rec_lsn_of, write_end_effect}

-- no page of an engine is dirty
abbrev pub HasNoDirtyPage : EngineState → Type 0
HasNoDirtyPage s = dirty s.log s.written ≡ []

-- the write of a page that was in progress has ended; where none was, nothing has changed
abbrev pub EndsWrite : ℕ → EngineState → EngineState → Type 0
EndsWrite page old new = new ≡ (write_end_effect old page).state

-- a write of a page that was dirty has begun; where it was not, nothing has changed
abbrev pub BeginsWrite : ℕ → EngineState → EngineState → Type 0
BeginsWrite page old new =
    new ≡ option_map_or (λ lsn. (effect old (WriteBegin page)).state) (rec_lsn_of old page) old

-- a page is not dirty, and each other page has the RecLSN that it had
pub record CleansPage (page : ℕ) (old new : EngineState) : Type 0 where
  pub clean : rec_lsn_of new page ≡ None
  pub others : (p : ℕ) → p ≢ page → rec_lsn_of new p ≡ rec_lsn_of old p
