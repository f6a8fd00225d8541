-- The page counts behind the records of a log.
use Rattle.std.proofs.Common.{ℕ, ◌≡◌, ◌+◌, ◌<◌, ◌≤◌, ◌++◌, ◌⊎◌, List, [], ◌∷◌, length, take, slice_index_or}
use Rattle.std.proofs.Common.{arith, ap, ◌∙◌, min, inl, inr}
use Rattle.std.proofs.lemmas.Bool.{cases_lt}
use Rattle.std.proofs.lemmas.List.{get_or_append_left, get_or_push, take_min}
use Rattle.log_records.specs.declared.record.Record.{Record}
use Rattle.log_records.specs.Log.{Log, page_count_at}
use Rattle.log_records.specs.PageCount.{count_behind}
use Rattle.log_records.proofs.Public.{count_behind-nil}

-- the count behind one record more
pub counts_more : (first : ℕ) (rs : List Record) (i : ℕ) (counts : List ℕ) (count : ℕ)
    → length counts ≡ i
    → ((k : ℕ) → k < i → slice_index_or counts k 0 ≡ count_behind first (take (k + 1) rs))
    → count ≡ count_behind first (take (i + 1) rs)
    → (k : ℕ) → k < i + 1
    → slice_index_or (counts ++ count ∷ []) k 0 ≡ count_behind first (take (k + 1) rs)
counts_more first rs i counts count long so_far now k lt = by_place (cases_lt k i)
  where
    by_place : (k < i) ⊎ (i ≤ k)
        → slice_index_or (counts ++ count ∷ []) k 0 ≡ count_behind first (take (k + 1) rs)
    by_place (inl before) =
        get_or_append_left counts (count ∷ []) 0 k (omega arith) ∙ so_far k before
    by_place (inr past) =
        let same : i ≡ k = omega arith in
        get_or_push counts count 0 k (long ∙ same) ∙ now
        ∙ ap (λ n. count_behind first (take (n + 1) rs)) same

-- a log has no more records than it has
pub count_at_least : (log : Log) (n : ℕ)
    → page_count_at log (min n (length log.records)) ≡ page_count_at log n
count_at_least log n = ap (count_behind log.pages) (take_min n log.records)

-- no record is before the first one
pub count_at_none : (log : Log) (n : ℕ) → n ≡ 0 → page_count_at log n ≡ log.pages
count_at_none log n none = ap (page_count_at log) none ∙ count_behind-nil log.pages
