-- Numbers that rise along a list, as the LSNs of a log do.
use Rattle.std.proofs.Common.{◌≡◌, ◌≢◌, ℕ, suc, ◌+◌, ◌<◌, Bool, true, false, cond, List, [], ◌∷◌, ◌++◌, length, map, ap}
use Rattle.std.proofs.Common.{◌∙◌, arith, inl, inr}
use Rattle.std.specs.Prelude.{slice_index_or}
use Rattle.std.specs.List.{AllByRecursion, AllPairs, filter}
use Rattle.std.specs.List.Sorted.{IsStrictlyIncreasing}
use Rattle.std.proofs.lemmas.Bool.{cases_lt}
use Rattle.std.proofs.lemmas.List.{get_or_append_left, get_or_push, length_push}
use Rattle.std.proofs.lemmas.List.Elements.{recursion_from_All}
use Rattle.std.proofs.lemmas.List.Kept.{AllPairs-from_increasing}
use Rattle.log_records.specs.declared.record.Record.{Record}
use Rattle.log_records.specs.Log.{IsLog, Log, lsn_of}
use Rattle.log_records.specs.Record.{own_lsn}

abbrev pub IsRising : List ℕ → Type 0
IsRising [] = Unit {0}
IsRising (n ∷ ns) = AllByRecursion (λ m. n < m) ns × IsRising ns

-- ---- one number out of a list

pub all_but : (P : ℕ → Type 0) (xs : List ℕ) (n : ℕ) (ys : List ℕ) → AllByRecursion P (xs ++ n ∷ ys)
    → AllByRecursion P (xs ++ ys)
all_but P [] n ys all = all.1
all_but P (x ∷ xs) n ys all = (all.0, all_but P xs n ys all.1)

all_at : (P : ℕ → Type 0) (xs : List ℕ) (n : ℕ) (ys : List ℕ) → AllByRecursion P (xs ++ n ∷ ys) → P n
all_at P [] n ys all = all.0
all_at P (x ∷ xs) n ys all = all_at P xs n ys all.1

pub rising_but : (xs : List ℕ) (n : ℕ) (ys : List ℕ) → IsRising (xs ++ n ∷ ys) → IsRising (xs ++ ys)
rising_but [] n ys rising = rising.1
rising_but (x ∷ xs) n ys rising = (all_but (λ m. x < m) xs n ys rising.0, rising_but xs n ys rising.1)

-- the others differ from it
pub others_differ : (xs : List ℕ) (n : ℕ) (ys : List ℕ) → IsRising (xs ++ n ∷ ys)
    → AllByRecursion (λ m. m ≢ n) (xs ++ ys)
others_differ [] n ys rising = above ys rising.0
  where
    above : (ms : List ℕ) → AllByRecursion (λ m. n < m) ms → AllByRecursion (λ m. m ≢ n) ms
    above [] all = tt
    above (m ∷ ms) all = let more = all.0 in (omega arith, above ms all.1)
others_differ (x ∷ xs) n ys rising =
    let below = all_at (λ m. x < m) xs n ys rising.0 in (omega arith, others_differ xs n ys rising.1)

-- those before it are less
pub others_below : (xs : List ℕ) (n : ℕ) (ys : List ℕ) → IsRising (xs ++ n ∷ ys) → AllByRecursion (λ m. m < n) xs
others_below [] n ys rising = tt
others_below (x ∷ xs) n ys rising = (all_at (λ m. x < m) xs n ys rising.0, others_below xs n ys rising.1)

-- ---- lists that rise

pub rising_from_pairs : (xs : List ℕ) → AllPairs (λ x y. x < y) xs → IsRising xs
rising_from_pairs [] pairs = tt
rising_from_pairs (x ∷ xs) pairs = (
  recursion_from_All (λ m. x < m) xs (λ k d within. pairs 0 (suc k) d (omega arith) (omega arith)),
  rising_from_pairs xs (λ i j d below within. pairs (suc i) (suc j) d (omega arith) (omega arith)),
)

pub rising_from_increasing : (xs : List ℕ) → IsStrictlyIncreasing xs → IsRising xs
rising_from_increasing xs increasing = rising_from_pairs xs (AllPairs-from_increasing xs increasing)

-- ---- the LSNs of a log

abbrev StandFrom : ℕ → List Record → Type 0
StandFrom k rs = (i : ℕ) (d : Record) → i < length rs → own_lsn (slice_index_or rs i d) ≡ lsn_of (k + i)

stand_behind : (k : ℕ) (r : Record) (rs : List Record) → StandFrom k (r ∷ rs) → StandFrom (k + 1) rs
stand_behind k r rs stand i d within = stand (suc i) d (omega arith) ∙ ap lsn_of (omega arith)

all_above : (n k : ℕ) (rs : List Record) → n < lsn_of k → StandFrom k rs → AllByRecursion (λ m. n < m) (map own_lsn rs)
all_above n k [] below stand = tt
all_above n k (r ∷ rs) below stand =
    let here = stand 0 r (omega arith) in
    (omega (arith, here), all_above n (k + 1) rs (omega arith) (stand_behind k r rs stand))

lsns_rise_from : (k : ℕ) (rs : List Record) → StandFrom k rs → IsRising (map own_lsn rs)
lsns_rise_from k [] stand = tt
lsns_rise_from k (r ∷ rs) stand =
    let here = stand 0 r (omega arith) in
    let behind = stand_behind k r rs stand in
    (all_above (own_lsn r) (k + 1) rs (omega (arith, here)) behind, lsns_rise_from (k + 1) rs behind)

-- each record has the LSN of its place
abbrev pub ArePlaced : List Record → Type 0
ArePlaced rs = (i : ℕ) (d : Record) → i < length rs → own_lsn (slice_index_or rs i d) ≡ lsn_of i

pub log_placed : (log : Log) → IsLog log → ArePlaced log.records
log_placed log valid i d within = (valid.records i d within).lsn

pub placed_push : (rs : List Record) (r : Record) → ArePlaced rs → own_lsn r ≡ lsn_of (length rs)
    → ArePlaced (rs ++ r ∷ [])
placed_push rs r placed own i d within = elim (cases_lt i (length rs)) [
  | inl below ↦ ap own_lsn (get_or_append_left rs (r ∷ []) d i below) ∙ placed i d below
  | inr above ↦
      let here : length rs ≡ i = omega (arith, within, above, length_push rs r) in
      ap own_lsn (get_or_push rs r d i here) ∙ own ∙ ap lsn_of here
]

pub placed_rise : (rs : List Record) → ArePlaced rs → IsRising (map own_lsn rs)
placed_rise rs placed = lsns_rise_from 0 rs (λ i d within. placed i d within ∙ ap lsn_of (omega arith))

pub lsns_rise : (log : Log) → IsLog log → IsRising (map own_lsn log.records)
lsns_rise log valid = placed_rise log.records (log_placed log valid)

-- those of some of its records
all_filter : (P : ℕ → Type 0) (p : Record → Bool) (rs : List Record) → AllByRecursion P (map own_lsn rs)
    → AllByRecursion P (map own_lsn (filter p rs))
all_filter P p [] all = all
all_filter P p (r ∷ rs) all = with_first (p r) all.0 (all_filter P p rs all.1)
  where
    with_first : (b : Bool) → P (own_lsn r) → AllByRecursion P (map own_lsn (filter p rs))
        → AllByRecursion P (map own_lsn (cond b (r ∷ filter p rs) (filter p rs)))
    with_first true here rest = (here, rest)
    with_first false here rest = rest

pub rising_filter : (p : Record → Bool) (rs : List Record) → IsRising (map own_lsn rs)
    → IsRising (map own_lsn (filter p rs))
rising_filter p [] rising = rising
rising_filter p (r ∷ rs) rising =
    with_first (p r) (all_filter (λ m. own_lsn r < m) p rs rising.0) (rising_filter p rs rising.1)
  where
    with_first : (b : Bool) → AllByRecursion (λ m. own_lsn r < m) (map own_lsn (filter p rs))
        → IsRising (map own_lsn (filter p rs)) → IsRising (map own_lsn (cond b (r ∷ filter p rs) (filter p rs)))
    with_first true here rest = (here, rest)
    with_first false here rest = rest
