-- The page counts of a volume: none is more than the last one.
use Rattle.std.proofs.Common.{◌≡◌, ℕ, ◌≤◌, [], ◌∷◌, List, arith, max, filter, refl}
use Rattle.std.specs.Prelude.{Bool, true, false, nat_lt}
use Rattle.std.proofs.Math.Nat.{le-max_left, le-max_right, max-le}
use Rattle.page_core.specs.declared.page_counts.GivenCount.{GivenCount}
use Rattle.page_core.specs.PageCounts.{PageCounts, count_below, greatest, last_count}

-- what some of the counts make is not more than what all of them do
part-not_more : (some : GivenCount → Bool) (n m : ℕ) (gs : List GivenCount) → n ≤ m
    → greatest n (filter some gs) ≤ greatest m gs
part-not_more some n m [] le = le
part-not_more some n m (g ∷ gs) le =
    let wide : n ≤ max m g.pages = omega (arith, le, le-max_left m g.pages) in
    by_answer (some g) refl
    (part-not_more some (max n g.pages) (max m g.pages) gs (max-le wide (le-max_right m g.pages)))
    (part-not_more some n (max m g.pages) gs wide)
  where
    by_answer : (answer : Bool) → some g ≡ answer
        → greatest (max n g.pages) (filter some gs) ≤ greatest (max m g.pages) gs
        → greatest n (filter some gs) ≤ greatest (max m g.pages) gs
        → greatest n (filter some (g ∷ gs)) ≤ greatest m (g ∷ gs)
    by_answer true is with_it without = rw is with_it
    by_answer false is with_it without = rw is without

pub count_below-not_more : (counts : PageCounts) (lsn : ℕ) → count_below counts lsn ≤ last_count counts
count_below-not_more counts lsn = part-not_more (λ g. nat_lt g.lsn lsn) counts.first counts.first counts.given (omega arith)
