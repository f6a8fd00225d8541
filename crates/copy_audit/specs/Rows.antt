-- What is found in the pages of a chain's copies, which come row by row: a row has one page as each
-- copy has it.
use Rattle.std.specs.Prelude.{ℕ, ◌+◌, ◌<◌, List, [], length, take, Option, Some, None}
use Rattle.std.specs.Prelude.{slice_index, slice_index_or}
use Rattle.std.specs.List.{flat_map}
use Rattle.page_core.specs.declared.page.Page.{Page}
use Rattle.page_core.specs.Page.{formatted}
use Rattle.log_records.specs.declared.record.Record.{Record}
use Rattle.log_records.specs.Coverage.{Covers}
use Rattle.copy_vault.specs.Chain.{last_of}
use Rattle.copy_audit.specs.declared.found.Found.{Found}

-- the page of the chain of so many copies, the first ones
abbrev pub content_in : ℕ → List (List Page) → ℕ → Page
content_in number row count =
    last_of (formatted number) (flat_map (λ pages. pages) (take count row))

-- the page of the chain up to a member is of the log's past, and lacks nothing below the redo point
-- of that member
abbrev pub IsSoundIn : List Record → ℕ → List (List Page) → List ℕ → ℕ → Type 0
IsSoundIn rs number row points member =
    Covers rs number (content_in number row (member + 1)) (slice_index points member)

-- of so many members this is the first one of which that does not hold
pub record IsFirstIn (rs : List Record) (number : ℕ) (row : List (List Page)) (points : List ℕ)
    (most member : ℕ) : Type 0 where
  pub there : member < most
  pub before : (k : ℕ) → k < member → IsSoundIn rs number row points k
  pub here : ¬ IsSoundIn rs number row points member

-- of so many members this is the first one, or it holds of all
abbrev pub IsFirstOf : List Record → ℕ → List (List Page) → List ℕ → ℕ → Option ℕ → Type 0
IsFirstOf rs number row points most None =
    (k : ℕ) → k < most → IsSoundIn rs number row points k
IsFirstOf rs number row points most (Some member) = IsFirstIn rs number row points most member

-- in these rows it holds of all members before this one, and of this one before this page, but not
-- of this page
pub record IsLeastIn (rs : List Record) (points : List ℕ) (members : ℕ)
    (given : List (List (List Page))) (found : Found) : Type 0 where
  pub there : found.member < members
  pub within : found.page < length given
  pub members_before : (k p : ℕ) → k < found.member → p < length given
      → IsSoundIn rs p (slice_index_or given p []) points k
  pub pages_before : (p : ℕ) → p < found.page
      → IsSoundIn rs p (slice_index_or given p []) points found.member
  pub here : ¬ IsSoundIn rs found.page (slice_index_or given found.page []) points found.member

-- what is found in these rows: where it does not hold first, or nothing
abbrev pub AreFound : List Record → List ℕ → ℕ → List (List (List Page)) → Option Found → Type 0
AreFound rs points members given None =
    (k p : ℕ) → k < members → p < length given
    → IsSoundIn rs p (slice_index_or given p []) points k
AreFound rs points members given (Some found) = IsLeastIn rs points members given found
