-- The marks of all slots, as one list.
use Rattle.std.proofs.Common.{◌≡◌, ◌≢◌, ◌⊎◌, ◌∙◌, ◌+◌, ◌-◌, ◌*◌, ◌<◌, ◌≤◌, ◌&&◌, ◌++◌, ℕ, Bool, true, false, List, []}
use Rattle.std.proofs.Common.{Result, Ok, Err, is_ok, length, get_or, set, take, replicate, cond, eqb, inl, inr, refl}
use Rattle.std.proofs.Common.{sym, ap, arith}
use Rattle.std.proofs.lemmas.Bool.{and_from, and_parts, cases_Bool, cases_lt, eq-eqb, eqb-true, false≢true, le-ltb}
use Rattle.std.proofs.lemmas.Bool.{lt-ltb, ltb-true}
use Rattle.std.specs.Prelude.{vec_len}
use Rattle.std.proofs.lemmas.List.{get_or-append_right, get_or-replicate, get_or-set_other, get_or-set_same}
use Rattle.std.proofs.lemmas.List.{get_or_append_left, get_or_default, get_or_past, length-replicate, take_all}
use lib.Dec.{ltb}
use Rattle.slot_claims.specs.declared.holder_byte.Holder.{Holder}
use Rattle.slot_claims.specs.declared.holder_byte.Holder.TheVariants.{Nobody}
use Rattle.slot_claims.specs.declared.holder_byte.HolderByte.{HolderByte}
use Rattle.slot_claims.specs.declared.marks.Marks.{Marks}
use Rattle.slot_claims.specs.HolderByte.{holder_of}
use Rattle.slot_claims.specs.Marks.{has_mark, holder_at}

abbrev pub no_mark : HolderByte
no_mark = record { byte = 0 }

pub nobody : holder_of no_mark ≡ Nobody
unfolding holder_of
nobody = refl

-- the holder at a place of the list
abbrev pub holder_in : List HolderByte → ℕ → Holder
holder_in ms n = holder_of (get_or ms n no_mark)

pub holder_in-past : (ms : List HolderByte) (n : ℕ) → length ms ≤ n → holder_in ms n ≡ Nobody
holder_in-past ms n past = ap holder_of (get_or_past ms n no_mark past) ∙ nobody

-- a list that was made longer, with nobody at its end, or was not
pub holder_in-longer : {T E : Type 0} (r : Result T E) (ms more : List HolderByte) (none : HolderByte) (n len : ℕ)
    → holder_of none ≡ Nobody → len ≡ length ms → length ms ≤ n
    → more ≡ cond (is_ok r) (take n ms ++ replicate (n - len) none) ms → (k : ℕ) → holder_in more k ≡ holder_in ms k
holder_in-longer (Err e) ms more none n len is_none long longer items k = ap (λ xs. holder_in xs k) items
holder_in-longer (Ok x) ms more none n len is_none long longer items k =
    ap (λ xs. holder_in xs k) (items ∙ ap (λ xs. xs ++ replicate (n - len) none) (take_all n ms longer))
    ∙ (elim (cases_lt k (length ms)) [
      | inl below ↦ ap holder_of (get_or_append_left ms (replicate (n - len) none) no_mark k below)
      | inr above ↦
          ap holder_of (get_or-append_right ms (replicate (n - len) none) (length ms) k no_mark refl above)
          ∙ none_in (cases_lt (k - length ms) (n - len)) ∙ sym (holder_in-past ms k above)
    ])
  where
    none_in : (k - length ms < n - len) ⊎ (n - len ≤ k - length ms)
        → holder_in (replicate (n - len) none) (k - length ms) ≡ Nobody
    none_in (inl within) =
        ap holder_of (get_or-replicate (n - len) (k - length ms) none no_mark within) ∙ is_none
    none_in (inr past) =
        holder_in-past (replicate (n - len) none) (k - length ms) (omega (arith, length-replicate (n - len) none))

-- the holder of a slot, if pages have it
abbrev pub slot_holder : List HolderByte → ℕ → ℕ → Holder
slot_holder ms page slot = cond (ltb slot 62) (holder_in ms (62 * page + slot)) Nobody

pub holder-put : (ms : List HolderByte) (page slot : ℕ) (mark : HolderByte) (holder : Holder) → holder_of mark ≡ holder → slot < 62
    → 62 * page + slot < length ms → (p s : ℕ)
    → slot_holder (set ms (62 * page + slot) mark) p s
    ≡ cond (eqb page p && eqb slot s) holder (slot_holder ms p s)
holder-put ms page slot mark holder says there within p s =
    let here = 62 * page + slot in
    let after = set ms here mark in
    let or_else = λ (b : Bool). cond b holder (slot_holder ms p s) in
    elim (cases_Bool (eqb page p && eqb slot s)) [
      | inl same ↦
          let both = and_parts (eqb page p) (eqb slot s) same in
          let page_is : page ≡ p = eqb-true page p both.0 in
          let slot_is : slot ≡ s = eqb-true slot s both.1 in
          let below : s < 62 = omega arith in
          let place : 62 * p + s ≡ here = omega arith in
          ap (λ b. cond b (holder_in after (62 * p + s)) Nobody) (lt-ltb s 62 below)
          ∙ ap (holder_in after) place
          ∙ ap holder_of (get_or-set_same ms here mark no_mark within)
          ∙ says
          ∙ ap or_else (sym same)
      | inr other ↦ slot_kept (cases_lt s 62) other ∙ ap or_else (sym other)
    ]
  where
    slot_kept : (s < 62) ⊎ (62 ≤ s) → (eqb page p && eqb slot s) ≡ false
        → slot_holder (set ms (62 * page + slot) mark) p s ≡ slot_holder ms p s
    slot_kept (inr past) other =
        ap (λ b. cond b (holder_in (set ms (62 * page + slot) mark) (62 * p + s)) Nobody) (le-ltb s 62 past)
        ∙ sym (ap (λ b. cond b (holder_in ms (62 * p + s)) Nobody) (le-ltb s 62 past))
    slot_kept (inl below) other =
        let apart : 62 * p + s ≢ 62 * page + slot = λ e.
        (let page_is : page ≡ p = omega arith in
        let slot_is : slot ≡ s = omega arith in
        false≢true (sym other ∙ and_from (eqb page p) (eqb slot s) (eq-eqb page p page_is) (eq-eqb slot s slot_is))) in
        ap (λ m. cond (ltb s 62) (holder_of m) Nobody)
        (get_or-set_other ms (62 * page + slot) (62 * p + s) mark no_mark apart)

pub no_slot : (page slot : ℕ) → slot_holder [] page slot ≡ Nobody
no_slot page slot = elim (ltb slot 62) as (λ b. cond b (holder_in [] (62 * page + slot)) Nobody ≡ Nobody) [
  | true ↦ nobody
  | false ↦ refl
]

-- a slot that no page has, and one behind the list
pub slot_past : (ms : List HolderByte) (page slot : ℕ) → 62 ≤ slot → slot_holder ms page slot ≡ Nobody
slot_past ms page slot past = ap (λ b. cond b (holder_in ms (62 * page + slot)) Nobody) (le-ltb slot 62 past)

pub slot_behind : (ms : List HolderByte) (page slot : ℕ) → length ms ≤ 62 * page + slot → slot_holder ms page slot ≡ Nobody
slot_behind ms page slot behind =
    ap (λ h. cond (ltb slot 62) h Nobody) (holder_in-past ms (62 * page + slot) behind)
    ∙ (elim (ltb slot 62) as (λ b. cond b Nobody Nobody ≡ Nobody) [ true ↦ refl | false ↦ refl ])

-- one that the list has
pub slot_there : (ms : List HolderByte) (page slot n : ℕ) (m : HolderByte) → slot < 62 → n ≡ 62 * page + slot → n < length ms
    → m ≡ get_or ms n m → holder_of m ≡ slot_holder ms page slot
slot_there ms page slot n m below is within there =
    ap holder_of (there ∙ get_or_default ms n m no_mark within) ∙ ap (holder_in ms) is
    ∙ sym (ap (λ b. cond b (holder_in ms (62 * page + slot)) Nobody) (lt-ltb slot 62 below))

pub slot_same : (more ms : List HolderByte) → ((k : ℕ) → holder_in more k ≡ holder_in ms k) → (p s : ℕ)
    → slot_holder more p s ≡ slot_holder ms p s
slot_same more ms same p s = ap (λ h. cond (ltb s 62) h Nobody) (same (62 * p + s))

-- ---- a slot that has a mark

pub marked : (marks : Marks) (page slot : ℕ) → has_mark marks page slot ≡ true
    → (slot < 62) × (62 * page + slot < vec_len marks.marks)
unfolding has_mark
marked marks page slot has =
    let both = and_parts (ltb slot 62) (ltb (62 * page + slot) (vec_len marks.marks)) has in
    (ltb-true slot 62 both.0, ltb-true (62 * page + slot) (vec_len marks.marks) both.1)

-- one that is held has one
pub held-marked : (marks : Marks) (page slot : ℕ) → (holder_at marks page slot ≡ Nobody → ⊥)
    → has_mark marks page slot ≡ true
unfolding has_mark holder_at
held-marked marks page slot held =
    let long = marks.marks.ok.0 in
    elim (cases_lt slot 62) [
      | inr past ↦ absurd (held (slot_past marks.marks.items page slot past))
      | inl fits ↦ elim (cases_lt (62 * page + slot) (vec_len marks.marks)) [
        | inl within ↦ and_from _ _ (lt-ltb slot 62 fits) (lt-ltb _ _ within)
        | inr behind ↦ absurd (held (slot_behind marks.marks.items page slot (omega (arith, long))))
      ]
    ]
