-- The page counts of a volume, as its log goes on.
use Rattle.std.specs.Prelude.{ℕ, List, filter, max, nat_lt}
use Rattle.std.specs.List.{fold}
use Rattle.page_core.specs.declared.page_counts.GivenCount.{GivenCount}

-- the count that the log's header gives, and those that its records gave, in their order
pub record PageCounts : Type 0 where
  pub first : ℕ
  pub given : List GivenCount

-- a volume never gets smaller: of all counts the greatest holds
abbrev pub greatest : ℕ → List GivenCount → ℕ
greatest first given = fold (λ count g. max count g.pages) first given

-- the page count in the end
abbrev pub last_count : PageCounts → ℕ
last_count counts = greatest counts.first counts.given

-- and before the record at an LSN
abbrev pub count_below : PageCounts → ℕ → ℕ
count_below counts lsn = greatest counts.first (filter (λ g. nat_lt g.lsn lsn) counts.given)
