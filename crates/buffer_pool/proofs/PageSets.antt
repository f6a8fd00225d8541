-- A set of numbers, and the words in which it has members.
use Rattle.std.proofs.Common.{◌≡◌, ◌∙◌, ℕ, ◌+◌, ◌*◌, ◌/◌, ◌<◌, ◌≤◌, Bool, true, false, List, length, get_or, set}
use Rattle.std.proofs.Common.{replicate, refl, sym, ap, inl, inr, arith}
use Rattle.std.specs.Prelude.{Option, Some, None, IfSome, MatchOption, is_some}
use Rattle.std.proofs.lemmas.Bool.{cases_eq, cases_lt}
use Rattle.std.proofs.lemmas.List.{get_or_past, get_or-replicate, get_or-set_other, get_or-set_same, length-replicate}
use Rattle.std.proofs.lemmas.List.{length-set}
use Rattle.buffer_pool.specs.declared.page_set.TheConstants.{MAX_MEMBERS}
use Rattle.buffer_pool.specs.PageSet.{AreLevels, HasNone, IsFirstFrom, IsSummary, has}

-- a member is below the bound
pub member_below : (set : List Bool) (n : ℕ) → has set n ≡ true → n < length set
member_below set n here = elim (cases_lt n (length set)) [
  | inl low ↦ low
  | inr high ↦ let gone : get_or set n false ≡ false = get_or_past set n false high in absurd (cc)
]

-- the bit of a number's word is within the row of the words
pub word_below : (set words : List Bool) (n : ℕ) → IsSummary set words → n < length set → n / 64 < length words
word_below set words n is lt = let room = is.room in omega arith

-- ---- sets with no member

pub none_of : (count : ℕ) (n : ℕ) → get_or (replicate count false) n false ≡ false
none_of count n = elim (cases_lt n count) [
  | inl low ↦ get_or-replicate count n false false low
  | inr high ↦ get_or_past (replicate count false) n false (omega (arith, length-replicate count false))
]

pub summary_none : (a b : ℕ) → a ≤ 64 * b → IsSummary (replicate a false) (replicate b false)
summary_none a b le = record {
  room = omega (arith, length-replicate a false, length-replicate b false);
  noted = λ n here. let none = none_of a n in absurd (cc);
  met = λ w here. let none = none_of b w in absurd (cc);
}

-- ---- a member more

pub summary_inserted : (old words : List Bool) (n : ℕ) → IsSummary old words → n < length old
    → IsSummary (set old n true) (set words (n / 64) true)
summary_inserted old words n is there =
    let room = is.room in
    let long : n / 64 < length words = word_below old words n is there in
    record {
      room = omega (arith, length-set old n true, length-set words (n / 64) true);
      noted = λ k here. elim (cases_eq (k / 64) (n / 64)) [
        | inl same ↦
            ap (λ (w : ℕ). get_or (set words (n / 64) true) w false) same
            ∙ get_or-set_same words (n / 64) true false long
        | inr other ↦
            get_or-set_other words (n / 64) (k / 64) true false other
            ∙ is.noted k (sym (get_or-set_other old n k true false (λ e. other (ap (λ (j : ℕ). j / 64) e))) ∙ here)
      ];
      met = λ w here. elim (cases_eq w (n / 64)) [
        | inl same ↦ (n, (sym same, get_or-set_same old n true false there))
        | inr other ↦
            let found = is.met w (sym (get_or-set_other words (n / 64) w true false other) ∙ here) in (
              found.0,
              (
                found.1.0,
                get_or-set_other old n found.0 true false
                    (λ e. other (sym found.1.0 ∙ ap (λ (j : ℕ). j / 64) e)) ∙ found.1.1,
              ),
            )
      ];
    }

-- ---- a member less

-- a set has what it had but one
left_over : (old : List Bool) (n k : ℕ) → n < length old → has (set old n false) k ≡ true → has old k ≡ true
left_over old n k there here = elim (cases_eq k n) [
  | inl same ↦
      let gone : get_or (set old n false) k false ≡ false =
      ap (λ (j : ℕ). get_or (set old n false) j false) same ∙ get_or-set_same old n false false there in
      absurd (cc)
  | inr other ↦ sym (get_or-set_other old n k false false other) ∙ here
]

-- its word has another
pub summary_kept : (old words : List Bool) (n m : ℕ) → IsSummary old words → n < length old → m / 64 ≡ n / 64
    → has (set old n false) m ≡ true → IsSummary (set old n false) words
summary_kept old words n m is there same member =
    let room = is.room in
    record {
      room = omega (arith, length-set old n false);
      noted = λ k here. is.noted k (left_over old n k there here);
      met = λ w here.
          let found = is.met w here in
          elim (cases_eq found.0 n) [
            | inl that ↦ (m, (same ∙ ap (λ (j : ℕ). j / 64) (sym that) ∙ found.1.0, member))
            | inr other ↦ (found.0, (found.1.0, get_or-set_other old n found.0 false false other ∙ found.1.1))
          ];
    }

-- it has none
pub summary_removed : (old words : List Bool) (n : ℕ) → IsSummary old words → n < length old
    → HasNone (set old n false) (n / 64 * 64) (n / 64 * 64 + 64)
    → IsSummary (set old n false) (set words (n / 64) false)
summary_removed old words n is there none =
    let room = is.room in
    let long : n / 64 < length words = word_below old words n is there in
    record {
      room = omega (arith, length-set old n false, length-set words (n / 64) false);
      noted = λ k here. elim (cases_eq (k / 64) (n / 64)) [
        | inl same ↦
            let gone : get_or (set old n false) k false ≡ false = none k (omega arith) (omega arith) in
            absurd (cc)
        | inr other ↦
            get_or-set_other words (n / 64) (k / 64) false false other
            ∙ is.noted k (left_over old n k there here)
      ];
      met = λ w here. elim (cases_eq w (n / 64)) [
        | inl same ↦
            let gone : get_or (set words (n / 64) false) w false ≡ false =
            ap (λ (v : ℕ). get_or (set words (n / 64) false) v false) same
            ∙ get_or-set_same words (n / 64) false false long in
            absurd (cc)
        | inr other ↦
            let found = is.met w (sym (get_or-set_other words (n / 64) w false false other) ∙ here) in (
              found.0,
              (
                found.1.0,
                get_or-set_other old n found.0 false false
                    (λ e. other (sym found.1.0 ∙ ap (λ (j : ℕ). j / 64) e)) ∙ found.1.1,
              ),
            )
      ];
    }

-- ---- the first member from a number on

-- a word without one
none_by_word : (old words : List Bool) (n : ℕ) → IsSummary old words → has words (n / 64) ≡ false
    → has old n ≡ false
none_by_word old words n is none = by_member (get_or old n false) refl
  where
    by_member : (b : Bool) → get_or old n false ≡ b → get_or old n false ≡ false
    by_member false e = e
    by_member true e = let noted = is.noted n e in absurd (cc)

-- neither its word nor one behind it has one
pub none_on : (old words : List Bool) (from : ℕ) → IsSummary old words
    → HasNone old from (from / 64 * 64 + 64) → HasNone words (from / 64 + 1) (length words)
    → HasNone old from (length old)
none_on old words from is here behind = λ n le lt. elim (cases_lt n (from / 64 * 64 + 64)) [
  | inl low ↦ here n le low
  | inr high ↦
      none_by_word old words n is (behind (n / 64) (omega arith) (word_below old words n is lt))
]

-- the first in the first word behind it that has one
pub first_on : (old words : List Bool) (from w n : ℕ) → IsSummary old words
    → HasNone old from (from / 64 * 64 + 64) → IsFirstFrom words (from / 64 + 1) w → IsFirstFrom old (w * 64) n
    → IsFirstFrom old from n
first_on old words from w n is here word found =
    let later = word.later in
    let on = found.later in
    record {
      later = omega arith;
      member = found.member;
      first = λ k le lt. elim (cases_lt k (from / 64 * 64 + 64)) [
        | inl low ↦ here k le low
        | inr high ↦ elim (cases_lt k (w * 64)) [
          | inl before ↦ none_by_word old words k is (word.first (k / 64) (omega arith) (omega arith))
          | inr within ↦ found.first k within lt
        ]
      ];
    }

-- a word that has one is not without
pub not_none : (old words : List Bool) (from w : ℕ) → IsSummary old words → IsFirstFrom words from w
    → HasNone old (w * 64) (w * 64 / 64 * 64 + 64) → ⊥
not_none old words from w is word none =
    let found = is.met w word.member in
    let same = found.1.0 in
    let gone : get_or old found.0 false ≡ false = none found.0 (omega arith) (omega arith) in
    let here : get_or old found.0 false ≡ true = found.1.1 in
    absurd (cc)

-- in a row of one word there is none behind it
pub none_behind : (old : List Bool) (from : ℕ) → length old ≤ 64 → HasNone old from (from / 64 * 64 + 64)
    → HasNone old from (length old)
none_behind old from short here = λ n le lt. here n le (omega arith)

-- ---- all levels

pub levels_inserted : (pages words groups pages' words' groups' : List Bool) (n : ℕ) → AreLevels pages words groups
    → n < length pages → pages' ≡ set pages n true → words' ≡ set words (n / 64) true
    → groups' ≡ set groups (n / 64 / 64) true → AreLevels pages' words' groups'
levels_inserted pages words groups pages' words' groups' n is there e_pages e_words e_groups =
    rw (e_pages, e_words, e_groups) (record {
      few = let few = is.few in omega (arith, length-set pages n true);
      fewer = let fewer = is.fewer in omega (arith, length-set words (n / 64) true);
      by_word = summary_inserted pages words n is.by_word there;
      by_group = summary_inserted words groups (n / 64) is.by_group (word_below pages words n is.by_word there);
      one_word = let one = is.one_word in omega (arith, length-set groups (n / 64 / 64) true);
    })

-- the word of the number has another member
summary_left : (old words old' : List Bool) (n : ℕ) (r : Option ℕ) → IsSummary old words → n < length old
    → old' ≡ set old n false → is_some r ≡ true
    → MatchOption r (HasNone old' (n / 64 * 64) (n / 64 * 64 / 64 * 64 + 64)) (IsFirstFrom old' (n / 64 * 64))
    → IfSome r (λ m. m / 64 ≡ n / 64 * 64 / 64) → IsSummary old' words
summary_left old words old' n None is there e some found within = absurd (cc)
summary_left old words old' n (Some m) is there e some found within =
    rw e (summary_kept old words n m is there (omega arith)
    (ap (λ (xs : List Bool). get_or xs m false) (sym e) ∙ found.member))

-- it has none
summary_gone : (old words old' words' : List Bool) (n : ℕ) (r : Option ℕ) → IsSummary old words → n < length old
    → old' ≡ set old n false → words' ≡ set words (n / 64) false → is_some r ≡ false
    → MatchOption r (HasNone old' (n / 64 * 64) (n / 64 * 64 / 64 * 64 + 64)) (IsFirstFrom old' (n / 64 * 64))
    → IsSummary old' words'
summary_gone old words old' words' n (Some m) is there e e' none found = absurd (cc)
summary_gone old words old' words' n None is there e e' none found =
    rw e' (rw e (summary_removed old words n is there (λ k le lt.
    ap (λ (xs : List Bool). get_or xs k false) (sym e) ∙ found k le (omega arith))))

module _ (pages words groups pages' : List Bool) (n : ℕ) (r : Option ℕ) (is : AreLevels pages words groups)
    (there : n < length pages) (e_pages : pages' ≡ set pages n false)
    (first : MatchOption r (HasNone pages' (n / 64 * 64) (n / 64 * 64 / 64 * 64 + 64))
    (IsFirstFrom pages' (n / 64 * 64)))
  where
    few' : length pages' ≤ MAX_MEMBERS
    few' = let few = is.few in omega (arith, length-set pages n false, ap length e_pages)

    there' : n / 64 < length words
    there' = word_below pages words n is.by_word there

    pub levels_kept : is_some r ≡ true → IfSome r (λ m. m / 64 ≡ n / 64 * 64 / 64) → AreLevels pages' words groups
    levels_kept some within = record {
      few = few';
      fewer = is.fewer;
      by_word = summary_left pages words pages' n r is.by_word there e_pages some first within;
      by_group = is.by_group;
      one_word = is.one_word;
    }

    module _ (words' : List Bool) (r' : Option ℕ) (none : is_some r ≡ false)
        (e_words : words' ≡ set words (n / 64) false)
        (first' : MatchOption r' (HasNone words' (n / 64 / 64 * 64) (n / 64 / 64 * 64 / 64 * 64 + 64))
        (IsFirstFrom words' (n / 64 / 64 * 64)))
      where
        by_word' : IsSummary pages' words'
        by_word' = summary_gone pages words pages' words' n r is.by_word there e_pages e_words none first

        fewer' : length words' ≤ MAX_MEMBERS
        fewer' = let fewer = is.fewer in omega (arith, length-set words (n / 64) false, ap length e_words)

        pub levels_word_less : is_some r' ≡ true → IfSome r' (λ m. m / 64 ≡ n / 64 / 64 * 64 / 64)
            → AreLevels pages' words' groups
        levels_word_less some within = record {
          few = few';
          fewer = fewer';
          by_word = by_word';
          by_group = summary_left words groups words' (n / 64) r' is.by_group there' e_words some first' within;
          one_word = is.one_word;
        }

        pub levels_group_less : (groups' : List Bool) → is_some r' ≡ false → groups' ≡ set groups (n / 64 / 64) false
            → AreLevels pages' words' groups'
        levels_group_less groups' none' e_groups = record {
          few = few';
          fewer = fewer';
          by_word = by_word';
          by_group =
              summary_gone words groups words' groups' (n / 64) r' is.by_group there' e_words e_groups none' first';
          one_word = let one = is.one_word in omega (arith, length-set groups (n / 64 / 64) false, ap length e_groups);
        }

-- ---- the answer of a search

pub first_is : (set words : List Bool) (from w : ℕ) (r : Option ℕ) → IsSummary set words
    → HasNone set from (from / 64 * 64 + 64) → IsFirstFrom words (from / 64 + 1) w
    → MatchOption r (HasNone set (w * 64) (w * 64 / 64 * 64 + 64)) (IsFirstFrom set (w * 64))
    → MatchOption r (HasNone set from (length set)) (IsFirstFrom set from)
first_is set words from w None is here word none = absurd (not_none set words (from / 64 + 1) w is word none)
first_is set words from w (Some n) is here word found = first_on set words from w n is here word found
