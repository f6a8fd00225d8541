-- Sets of numbers: of each number below a bound, whether it is a member.
use Rattle.std.specs.Prelude.{ℕ, ◌≡◌, ◌*◌, ◌/◌, ◌<◌, ◌≤◌, Bool, true, false, List, length}
use Rattle.std.specs.Prelude.{slice_index_or}
use Rattle.buffer_pool.specs.declared.page_set.TheConstants.{MAX_MEMBERS}

-- the number is a member
abbrev pub has : List Bool → ℕ → Bool
has set n = slice_index_or set n false

-- no number from one up to another is a member
abbrev pub HasNone : List Bool → ℕ → ℕ → Type 0
HasNone set from to = (n : ℕ) → from ≤ n → n < to → has set n ≡ false

-- the first member from a number on
pub record IsFirstFrom (set : List Bool) (from n : ℕ) : Type 0 where
  pub later : from ≤ n
  pub member : has set n ≡ true
  pub first : HasNone set from n

-- ---- how a set is kept

-- the members of one set are the words of 64 numbers in which another has members
pub record IsSummary (set words : List Bool) : Type 0 where
  pub room : length set ≤ 64 * length words
  pub noted : (n : ℕ) → has set n ≡ true → has words (n / 64) ≡ true
  pub met : (w : ℕ) → has words w ≡ true → (n : ℕ) × ((n / 64 ≡ w) × (has set n ≡ true))

-- a set of pages, the words in which it has pages, and the groups of 64 words in which it has words
pub record AreLevels (pages words groups : List Bool) : Type 0 where
  pub few : length pages ≤ MAX_MEMBERS
  pub fewer : length words ≤ MAX_MEMBERS
  pub by_word : IsSummary pages words
  pub by_group : IsSummary words groups
  pub one_word : length groups ≤ 64
