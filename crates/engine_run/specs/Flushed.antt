-- What a flush pass has found of each page.
use Rattle.std.specs.Prelude.{ℕ, ◌≡◌, ◌+◌, ◌⊎◌, ◌<◌, ◌≤◌, min, Result, Ok, Err}
use Rattle.page_core.specs.declared.page.TheConstants.{MAX_PAGES}
use Rattle.engine_calls.specs.declared.event.Answer.{Answer}
use Rattle.engine_calls.specs.declared.event.Answer.TheVariants as answer
use Rattle.engine_calls.specs.declared.event.Event.{Event}
use Rattle.engine_calls.specs.declared.event.Event.TheVariants as event
use Rattle.engine_calls.specs.declared.refusal.Refusal.{Refusal}
use Rattle.engine_calls.specs.declared.refusal.Refusal.TheVariants.{NoWrite, NotDirty}
use Rattle.engine_rules.specs.EngineState.{volume_pages}
use Rattle.engine_run.specs.Replies.{EngineCall, RepliesBy}

-- an engine replies so, by such a call, and its volume has so many pages then
pub record RepliesOf (call : EngineCall) (event : Event) (told : Result Answer Refusal)
    (pages : ℕ) : Type 0 where
  pub reply : RepliesBy call event told
  pub count : volume_pages reply.engine.after ≡ pages

-- a page is written; or another flusher has ended its write; or it was clean. The volume has so many
-- pages then
abbrev pub IsFlushed : EngineCall → ℕ → ℕ → Type 0
IsFlushed call page pages =
    ((lsn : ℕ) × RepliesOf call (event.WriteEnd page) (Ok (answer.Written lsn)) pages)
    ⊎ RepliesOf call (event.WriteEnd page) (Err NoWrite) pages
    ⊎ RepliesOf call (event.WriteBegin page) (Err NotDirty) pages

-- each of the first pages is flushed, at its turn
abbrev pub AreFlushed : EngineCall → ℕ → Type 0
AreFlushed call count = (page : ℕ) → page < count → (pages : ℕ) × IsFlushed call page pages

-- each page is, up to one that was the last of its volume then, or the last that a volume may have
pub record PassesOver (call : EngineCall) : Type 0 where
  pub last : ℕ
  pub pages : ℕ
  pub before : AreFlushed call last
  pub flushed : IsFlushed call last pages
  pub none_behind : min pages MAX_PAGES ≤ last + 1

-- a write of some page was refused so
abbrev pub RefusesFlush : EngineCall → Refusal → Type 0
RefusesFlush call why =
    (page : ℕ) × (RepliesBy call (event.WriteBegin page) (Err why)
    ⊎ RepliesBy call (event.WriteEnd page) (Err why))
