-- The rows of the slots of a page.
use Rattle.std.proofs.Common.{◌≡◌, ◌≢◌, ◌⊎◌, ◌∙◌, ◌-◌, ◌<◌, ◌≤◌, ◌&&◌, ◌++◌, ◌∷◌, [], ℕ, zero, suc, Bool, true, false, List, inl, inr}
use Rattle.std.proofs.Common.{ap, arith, cond, eqb, get_or, length, refl, set, sym}
use Rattle.std.proofs.lemmas.Bool.{and_cases, and_from, and_left, and_parts, and_right, cases_eq, cases_lt, eq-eqb, eqb-true, le-ltb}
use Rattle.std.proofs.lemmas.Bool.{cases_Bool, false_from_ne_true, false≢true, lt-ltb, ltb-false, ltb-true, ne_eqb, or_left}
use Rattle.std.proofs.lemmas.List.{get_or-append_right, get_or-set_other, get_or-set_same, get_or_append_left, get_or_default}
use Rattle.std.proofs.lemmas.List.{get_or_past, get_or_push, length-set, length_push}
use Rattle.std.specs.Prelude.{vec_len}
use lib.Dec.{ltb}
use Rattle.slot_claims.specs.declared.adders.Adders.{Adders}
use Rattle.slot_claims.specs.declared.adders.PageAdders.{PageAdders}
use Rattle.slot_claims.specs.declared.adders.PageAdders.TheVariants.{One, Several}
use Rattle.slot_claims.specs.declared.row_set.RowSet.{RowSet}
use Rattle.slot_claims.specs.declared.slot_sets.SlotRows.{SlotRows}
use Rattle.slot_claims.specs.declared.slot_sets.SlotSets.{SlotSets}
use Rattle.slot_claims.specs.Adders.{has_set, has_set_at, has_set_in, no_adders, rows_among, rows_at, rows_in}
use Rattle.slot_claims.specs.Adders.{rows_named}
use Rattle.slot_claims.specs.RowSet.{no_rows}
use Rattle.slot_claims.proofs.Paged.{at, at_behind, at_no_slot}

both_none : (b : Bool) → cond b no_rows no_rows ≡ no_rows
both_none true = refl
both_none false = refl

-- no slot of a page without sets has rows
pub none_in : (s : ℕ) → rows_in no_adders s ≡ no_rows
none_in s = both_none (eqb 0 s)

abbrev pub adders_at : List PageAdders → ℕ → ℕ → RowSet
adders_at = at no_adders rows_in no_rows

-- ---- a slot that has a set

pub set_there : (sets : SlotSets) (slot : ℕ) → has_set sets slot ≡ true
    → (get_or sets.places slot 0 < vec_len sets.sets)
    × ((get_or sets.sets.items (get_or sets.places slot 0) (record { slot = 0; rows = no_rows })).slot ≡ slot)
unfolding has_set
set_there sets slot has =
    let both = and_parts (ltb (get_or sets.places slot 0) (vec_len sets.sets)) _ has in
    (ltb-true (get_or sets.places slot 0) (vec_len sets.sets) both.0, eqb-true _ slot both.1)

-- the rows of a slot that has a set are put there
pub rows-put : (sets : SlotSets) (slot named : ℕ) (rows : RowSet) → has_set sets slot ≡ true → named ≡ slot → (s : ℕ)
    → rows_named (get_or (set sets.sets.items (get_or sets.places slot 0) (record { slot = named; rows = rows }))
    (get_or sets.places s 0) (record { slot = 0; rows = no_rows })) s
    ≡ cond (eqb slot s) rows (rows_among sets s)
rows-put sets slot named rows has named_is s =
    let there = set_there sets slot has in
    let items = sets.sets.items in
    let put : SlotRows = record { slot = named; rows = rows } in
    let none : SlotRows = record { slot = 0; rows = no_rows } in
    let n = get_or sets.places slot 0 in
    let m = get_or sets.places s 0 in
    elim (cases_eq m n) [
      | inl same ↦
          ap (λ k. rows_named (get_or (set items n put) k none) s) same
          ∙ ap (λ r. rows_named r s) (get_or-set_same items n put none (omega (arith, there.0, sets.sets.ok.0)))
          ∙ ap (λ k. cond (eqb k s) rows no_rows) named_is
          ∙ both (eqb slot s) rows (get_or items n none).rows
          ∙ ap (λ k. cond (eqb slot s) rows (cond (eqb k s) (get_or items n none).rows no_rows)) (sym there.1)
          ∙ ap (λ k. cond (eqb slot s) rows (rows_named (get_or items k none) s)) (sym same)
      | inr other ↦
          let apart : slot ≢ s = λ e. other (ap (λ k. get_or sets.places k 0) (sym e)) in
          ap (λ r. rows_named r s) (get_or-set_other items n m put none other)
          ∙ sym (ap (λ b. cond b rows (rows_among sets s)) (ne_eqb slot s apart))
    ]
  where
    both : (b : Bool) (x y : RowSet) → cond b x no_rows ≡ cond b x (cond b y no_rows)
    both true x y = refl
    both false x y = refl

pub set_named : (sets : SlotSets) (slot : ℕ) (found : SlotRows) → has_set sets slot ≡ true
    → found ≡ get_or sets.sets.items (get_or sets.places slot 0) found → found.slot ≡ slot
set_named sets slot found has is =
    let there = set_there sets slot has in
    ap (λ (r : SlotRows). r.slot)
    (is ∙ get_or_default sets.sets.items (get_or sets.places slot 0) found _ (omega (arith, sets.sets.ok.0, there.0)))
    ∙ there.1

-- and these are its rows
pub named_rows : (sets : SlotSets) (slot : ℕ) (found : SlotRows) → has_set sets slot ≡ true
    → found ≡ get_or sets.sets.items (get_or sets.places slot 0) found → rows_among sets slot ≡ found.rows
named_rows sets slot found has is =
    let there = set_there sets slot has in
    let none : SlotRows = record { slot = 0; rows = no_rows } in
    ap (λ b. cond b (get_or sets.sets.items (get_or sets.places slot 0) none).rows no_rows) (eq-eqb _ slot there.1)
    ∙ sym (ap (λ (r : SlotRows). r.rows)
    (is ∙ get_or_default sets.sets.items (get_or sets.places slot 0) found none (omega (arith, sets.sets.ok.0, there.0))))

-- a slot has the set that its place names
pub set_found : (sets : SlotSets) (slot n len : ℕ) (found : SlotRows) → n ≡ get_or sets.places slot 0
    → len ≡ vec_len sets.sets → n < len → found ≡ get_or sets.sets.items n found → found.slot ≡ slot
    → has_set sets slot ≡ true
unfolding has_set
set_found sets slot n len found place count within is named =
    let below : get_or sets.places slot 0 < vec_len sets.sets = omega arith in
    and_from (ltb (get_or sets.places slot 0) (vec_len sets.sets)) _ (lt-ltb _ _ below)
    (eq-eqb _ slot (ap (λ k. (get_or sets.sets.items k (record { slot = 0; rows = no_rows })).slot) (sym place)
    ∙ ap (λ (r : SlotRows). r.slot) (sym (is ∙ get_or_default sets.sets.items n found _ (omega (arith, sets.sets.ok.0))))
    ∙ named))

-- it has none where the place is not there, or names another slot
pub set_past : (sets : SlotSets) (slot : ℕ) → vec_len sets.sets ≤ get_or sets.places slot 0 → has_set sets slot ≡ false
unfolding has_set
set_past sets slot past = and_left _ _ (le-ltb (get_or sets.places slot 0) (vec_len sets.sets) past)

pub set_of_other : (sets : SlotSets) (slot : ℕ) (found : SlotRows) → get_or sets.places slot 0 < vec_len sets.sets
    → found ≡ get_or sets.sets.items (get_or sets.places slot 0) found → found.slot ≢ slot → has_set sets slot ≡ false
unfolding has_set
set_of_other sets slot found within is other =
    and_right (ltb (get_or sets.places slot 0) (vec_len sets.sets)) _
    (ne_eqb _ slot (λ e. other (ap (λ (r : SlotRows). r.slot)
    (is ∙ get_or_default sets.sets.items (get_or sets.places slot 0) found _ (omega (arith, sets.sets.ok.0))) ∙ e)))

-- a slot without a set has no rows
pub no_set : (sets : SlotSets) (slot : ℕ) → has_set sets slot ≡ false → rows_among sets slot ≡ no_rows
unfolding has_set
no_set sets slot none =
    let place = get_or sets.places slot 0 in
    let empty : SlotRows = record { slot = 0; rows = no_rows } in
    elim (and_cases (ltb place (vec_len sets.sets)) _ none) [
      | inl past ↦
          ap (λ r. rows_named r slot) (get_or_past sets.sets.items place empty
          (omega (arith, sets.sets.ok.0, ltb-false place (vec_len sets.sets) past)))
          ∙ both_none (eqb 0 slot)
      | inr other ↦ ap (λ b. cond b (get_or sets.sets.items place empty).rows no_rows) other
    ]

-- a set more, of a slot that has none
module _ (sets after : SlotSets) (slot : ℕ) (place : ℕ) (put : SlotRows) (within : slot < length sets.places)
    (places : after.places ≡ set sets.places slot place) (items : after.sets.items ≡ sets.sets.items ++ put ∷ [])
    (last : place ≡ length sets.sets.items) (named : put.slot ≡ slot) where
  pub set_added : has_set after slot ≡ true
  set_added =
      let empty : SlotRows = record { slot = 0; rows = no_rows } in
      let here : place ≡ get_or after.places slot 0 =
      sym (ap (λ ps. get_or ps slot 0) places ∙ get_or-set_same sets.places slot place 0 within) in
      let long = length_push sets.sets.items put in
      set_found after slot place (vec_len after.sets) put here refl
      (omega (arith, after.sets.ok.0, long, ap (λ (xs : List SlotRows). length xs) items))
      (sym (ap (λ xs. get_or xs place put) items ∙ get_or_push sets.sets.items put put place (sym last))) named

  pub rows_kept : has_set sets slot ≡ false → put.rows ≡ no_rows → (s : ℕ) → rows_among after s ≡ rows_among sets s
  rows_kept none empty s = elim (cases_eq s slot) [
    | inl same ↦
        ap (λ k. rows_among after k) same
        ∙ named_rows after slot put set_added
        (sym (ap (λ k. get_or after.sets.items k put) (sym here) ∙ ap (λ xs. get_or xs place put) items
        ∙ get_or_push sets.sets.items put put place (sym last)))
        ∙ empty ∙ sym (no_set sets slot none) ∙ ap (λ k. rows_among sets k) (sym same)
    | inr other ↦ apart other (cases_lt (get_or sets.places s 0) place)
  ]
    where
      here : place ≡ get_or after.places slot 0
      here = sym (ap (λ ps. get_or ps slot 0) places ∙ get_or-set_same sets.places slot place 0 within)

      none_there : SlotRows
      none_there = record { slot = 0; rows = no_rows }

      at_last : (k : ℕ) (e : SlotRows) → s ≢ slot → rows_named e s ≡ no_rows
          → rows_named (get_or (put ∷ []) k e) s ≡ no_rows
      at_last zero e other nothing =
          ap (λ b. cond b put.rows no_rows) (ne_eqb put.slot s (λ is. other (sym is ∙ named)))
      at_last (suc k) e other nothing = nothing

      apart : s ≢ slot → (get_or sets.places s 0 < place) ⊎ (place ≤ get_or sets.places s 0)
          → rows_among after s ≡ rows_among sets s
      apart other at =
          let m = get_or sets.places s 0 in
          ap (λ ps. rows_named (get_or after.sets.items (get_or ps s 0) none_there) s) places
          ∙ ap (λ k. rows_named (get_or after.sets.items k none_there) s)
          (get_or-set_other sets.places slot s place 0 other)
          ∙ ap (λ xs. rows_named (get_or xs m none_there) s) items
          ∙ (elim at [
            | inl below ↦
                ap (λ r. rows_named r s)
                (get_or_append_left sets.sets.items (put ∷ []) none_there m (omega (arith, below, last)))
            | inr past ↦
                ap (λ r. rows_named r s)
                (get_or-append_right sets.sets.items (put ∷ []) (length sets.sets.items) m none_there refl
                (omega (arith, past, last)))
                ∙ at_last (m - length sets.sets.items) none_there other (both_none (eqb 0 s))
                ∙ sym (ap (λ r. rows_named r s)
                (get_or_past sets.sets.items m none_there (omega (arith, past, last))) ∙ both_none (eqb 0 s))
          ])

-- ---- all pages

pub set_at : (adders : Adders) (page slot : ℕ) → has_set_at adders page slot ≡ true
    → (slot < 62) × (page < vec_len adders.pages)
    × (has_set_in (get_or adders.pages.items page no_adders) slot ≡ true)
unfolding has_set_at
set_at adders page slot has =
    let both = and_parts (ltb slot 62 && ltb page (vec_len adders.pages)) _ has in
    let bounds = and_parts (ltb slot 62) (ltb page (vec_len adders.pages)) both.0 in
    (ltb-true slot 62 bounds.0, ltb-true page (vec_len adders.pages) bounds.1, both.1)

-- a page that was found, by another name of both numbers
pub set_in_found : (adders : Adders) (page slot n t : ℕ) (found : PageAdders) → has_set_at adders page slot ≡ true
    → n ≡ page → t ≡ slot → found ≡ get_or adders.pages.items n found → has_set_in found t ≡ true
set_in_found adders page slot n t found has page_is slot_is is =
    let there = set_at adders page slot has in
    ap (has_set_in found) slot_is
    ∙ ap (λ p. has_set_in p slot) (is ∙ get_or_default adders.pages.items n found no_adders
    (omega (arith, there.1, adders.pages.ok.0, page_is)))
    ∙ ap (λ k. has_set_in (get_or adders.pages.items k no_adders) slot) page_is ∙ there.2

-- and what is put there
pub set_put : (adders after : Adders) (page slot n t : ℕ) (put : PageAdders)
    → after.pages.items ≡ set adders.pages.items n put → n < vec_len adders.pages → n ≡ page → t ≡ slot → t < 62
    → has_set_in put t ≡ true → has_set_at after page slot ≡ true
unfolding has_set_at
set_put adders after page slot n t put items within page_is slot_is fits has =
    let long : length after.pages.items ≡ length adders.pages.items =
    ap (λ (ps : List PageAdders). length ps) items ∙ length-set adders.pages.items n put in
    and_from (ltb slot 62 && ltb page (vec_len after.pages)) _
    (and_from (ltb slot 62) (ltb page (vec_len after.pages)) (lt-ltb slot 62 (omega arith))
    (lt-ltb page (vec_len after.pages) (omega (arith, long, after.pages.ok.0, adders.pages.ok.0))))
    (ap (λ ps. has_set_in (get_or ps page no_adders) slot) items
    ∙ ap (λ k. has_set_in (get_or (set adders.pages.items n put) k no_adders) slot) (sym page_is)
    ∙ ap (λ p. has_set_in p slot) (get_or-set_same adders.pages.items n put no_adders (omega (arith, adders.pages.ok.0)))
    ∙ ap (has_set_in put) (sym slot_is) ∙ has)

-- no page has the slot, or the page is behind them, or has no room for it
pub no_set_slot : (adders : Adders) (page slot : ℕ) → 62 ≤ slot → has_set_at adders page slot ≡ false
unfolding has_set_at
no_set_slot adders page slot past =
    and_left (ltb slot 62 && ltb page (vec_len adders.pages)) _ (and_left (ltb slot 62) _ (le-ltb slot 62 past))

pub no_set_page : (adders : Adders) (page slot : ℕ) → vec_len adders.pages ≤ page → has_set_at adders page slot ≡ false
unfolding has_set_at
no_set_page adders page slot past =
    and_left (ltb slot 62 && ltb page (vec_len adders.pages)) _
    (and_right (ltb slot 62) _ (le-ltb page (vec_len adders.pages) past))

pub no_set_found : (adders : Adders) (page slot n t : ℕ) (found : PageAdders) → n ≡ page → t ≡ slot
    → n < vec_len adders.pages → found ≡ get_or adders.pages.items n found → has_set_in found t ≡ false
    → has_set_at adders page slot ≡ false
no_set_found adders page slot n t found page_is slot_is within is none =
    false_from_ne_true _
    (λ has. false≢true (sym none ∙ set_in_found adders page slot n t found has page_is slot_is is))

-- ---- a slot of which somebody's row is there

pub held-set : (adders : Adders) (page slot : ℕ) → (rows_at adders page slot ≡ no_rows → ⊥)
    → has_set_at adders page slot ≡ true
unfolding has_set_at rows_at
held-set adders page slot some =
    elim (cases_lt slot 62) [
      | inr past ↦ absurd (some (at_no_slot no_adders rows_in no_rows adders.pages.items page slot past))
      | inl fits ↦ elim (cases_lt page (vec_len adders.pages)) [
        | inr behind ↦
            absurd (some (at_behind no_adders rows_in no_rows adders.pages.items page slot none_in
            (omega (arith, adders.pages.ok.0))))
        | inl within ↦
            let both = and_from (ltb slot 62) (ltb page (vec_len adders.pages)) (lt-ltb slot 62 fits)
            (lt-ltb page (vec_len adders.pages) within) in
            and_from (ltb slot 62 && ltb page (vec_len adders.pages)) _ both
            (in_page (get_or adders.pages.items page no_adders)
            (λ none. some (ap (λ b. cond b (rows_in (get_or adders.pages.items page no_adders) slot) no_rows)
            (lt-ltb slot 62 fits) ∙ none)))
      ]
    ]
  where
    in_page : (p : PageAdders) → (rows_in p slot ≡ no_rows → ⊥) → has_set_in p slot ≡ true
    in_page (One held rows) held_by = elim (cases_Bool (eqb held slot)) [
      | inl same ↦ or_left (eqb held slot) _ same
      | inr other ↦ absurd (held_by (ap (λ b. cond b rows no_rows) other))
    ]
    in_page (Several sets) held_by = elim (cases_Bool (has_set sets.value slot)) [
      | inl has ↦ has
      | inr none ↦ absurd (held_by (no_set sets.value slot none))
    ]
