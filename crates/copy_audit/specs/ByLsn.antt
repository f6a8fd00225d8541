-- The pages of a row, of which each is looked at once, in another order than that of their members.
use Rattle.std.specs.Prelude.{ℕ, ◌≡◌, ◌<◌, List, length, Option, None, Some, slice_index_or}
use Rattle.std.specs.List.{All, Contains}
use Rattle.page_core.specs.declared.page.Page.{Page}
use Rattle.log_records.specs.declared.record.Record.{Record}
use Rattle.copy_audit.specs.declared.reach.Reach.{Reach}
use Rattle.copy_audit.specs.Trace.{IsReach}

-- of the first places of a row, so many, these are the ones that have a page
pub record HavePages (row : List (Option Page)) (count : ℕ) (places : List ℕ) : Type 0 where
  pub within : All (λ k. k < count) places
  pub all : (k : ℕ) (page : Page) → k < count → slice_index_or row k None ≡ Some page
      → Contains places k

-- what is seen of a place in a row: how far its page reaches, if it has one
abbrev pub IsSeenIn : List Record → ℕ → Option Page → Option Reach → Type 0
IsSeenIn rs number None seen = seen ≡ None
IsSeenIn rs number (Some page) None = ⊥
IsSeenIn rs number (Some page) (Some reach) = IsReach rs number page reach

-- and of each place
pub record AreSeen (rs : List Record) (number : ℕ) (row : List (Option Page))
    (seen : List (Option Reach)) : Type 0 where
  pub count : length seen ≡ length row
  pub each : (k : ℕ) → k < length row
      → IsSeenIn rs number (slice_index_or row k None) (slice_index_or seen k None)
