-- Lists with an entry for each page, which says something of each slot.
use Rattle.std.proofs.Common.{◌≡◌, ◌≢◌, ◌⊎◌, ◌∙◌, ◌<◌, ◌≤◌, ◌&&◌, ◌++◌, ◌∷◌, ◌-◌, ℕ, zero, suc, Bool, true, false}
use Rattle.std.proofs.Common.{List, [], length, get_or, set, cond, eqb, inl, inr, refl, sym, ap, arith}
use Rattle.std.proofs.lemmas.Bool.{cases_eq, cases_lt, eq-eqb, le-ltb, lt-ltb, ne_eqb}
use Rattle.std.proofs.lemmas.List.{get_or-append_right, get_or-set_other, get_or-set_same, get_or_append_left}
use Rattle.std.proofs.lemmas.List.{get_or_default, get_or_past}
use lib.Dec.{ltb}

module _ {P V : Type 0} (none : P) (in_page : P → ℕ → V) (empty : V) where
  -- what the list says of a slot
  abbrev pub at : List P → ℕ → ℕ → V
  at pages page slot = cond (ltb slot 62) (in_page (get_or pages page none) slot) empty

  both_empty : (b : Bool) → cond b empty empty ≡ empty
  both_empty true = refl
  both_empty false = refl

  -- a slot that no page has, and one of a page behind the list
  pub at_no_slot : (pages : List P) (page slot : ℕ) → 62 ≤ slot → at pages page slot ≡ empty
  at_no_slot pages page slot past = ap (λ b. cond b (in_page (get_or pages page none) slot) empty) (le-ltb slot 62 past)

  pub at_behind : (pages : List P) (page slot : ℕ) → ((s : ℕ) → in_page none s ≡ empty) → length pages ≤ page
      → at pages page slot ≡ empty
  at_behind pages page slot nothing behind =
      ap (λ p. cond (ltb slot 62) (in_page p slot) empty) (get_or_past pages page none behind)
      ∙ ap (λ v. cond (ltb slot 62) v empty) (nothing slot) ∙ both_empty (ltb slot 62)

  -- one of a page that the list has
  pub at_there : (pages : List P) (page slot : ℕ) (p : P) → slot < 62 → page < length pages → p ≡ get_or pages page p
      → in_page p slot ≡ at pages page slot
  at_there pages page slot p below within there =
      ap (λ q. in_page q slot) (there ∙ get_or_default pages page p none within)
      ∙ sym (ap (λ b. cond b (in_page (get_or pages page none) slot) empty) (lt-ltb slot 62 below))

  -- one page more, of which nothing is said
  pub at_more : (pages : List P) (new : P) (page slot : ℕ) → ((s : ℕ) → in_page none s ≡ empty)
      → ((s : ℕ) → in_page new s ≡ empty) → at (pages ++ new ∷ []) page slot ≡ at pages page slot
  at_more pages new page slot nothing still = elim (cases_lt page (length pages)) [
    | inl below ↦
        ap (λ p. cond (ltb slot 62) (in_page p slot) empty) (get_or_append_left pages (new ∷ []) none page below)
    | inr above ↦
        ap (λ p. cond (ltb slot 62) (in_page p slot) empty)
        (get_or-append_right pages (new ∷ []) (length pages) page none refl above)
        ∙ ap (λ v. cond (ltb slot 62) v empty) (last (page - length pages))
        ∙ both_empty (ltb slot 62) ∙ sym (at_behind pages page slot nothing above)
  ]
    where
      last : (k : ℕ) → in_page (get_or (new ∷ []) k none) slot ≡ empty
      last zero = still slot
      last (suc k) = nothing slot

  -- what is said of one slot is changed
  pub at_put : (pages : List P) (page slot : ℕ) (after : P) (v : V) → page < length pages → slot < 62
      → ((s : ℕ) → s < 62 → in_page after s ≡ cond (eqb slot s) v (in_page (get_or pages page none) s))
      → (p s : ℕ)
      → at (set pages page after) p s ≡ cond (eqb page p && eqb slot s) v (at pages p s)
  at_put pages page slot after v within below says p s = elim (cases_eq page p) [
    | inl same ↦
        ap (λ i. at (set pages page after) i s) (sym same)
        ∙ ap (λ q. cond (ltb s 62) (in_page q s) empty) (get_or-set_same pages page after none within)
        ∙ here (cases_lt s 62)
        ∙ ap (λ i. cond (eqb slot s) v (at pages i s)) same
        ∙ sym (ap (λ b. cond (b && eqb slot s) v (at pages p s)) (eq-eqb page p same))
    | inr other ↦
        ap (λ q. cond (ltb s 62) (in_page q s) empty) (get_or-set_other pages page p after none (λ e. other (sym e)))
        ∙ sym (ap (λ b. cond (b && eqb slot s) v (at pages p s)) (ne_eqb page p other))
  ]
    where
      here : (s < 62) ⊎ (62 ≤ s)
          → cond (ltb s 62) (in_page after s) empty ≡ cond (eqb slot s) v (at pages page s)
      here (inl fits) =
          ap (λ b. cond b (in_page after s) empty) (lt-ltb s 62 fits) ∙ says s fits
          ∙ sym (ap (λ b. cond (eqb slot s) v
          (cond b (in_page (get_or pages page none) s) empty)) (lt-ltb s 62 fits))
      here (inr past) =
          let apart : slot ≢ s = omega arith in
          ap (λ b. cond b (in_page after s) empty) (le-ltb s 62 past)
          ∙ sym (ap (λ b. cond b v (at pages page s)) (ne_eqb slot s apart)
          ∙ at_no_slot pages page s past)

  -- what is said of one slot is changed in a page that was found, by another name of both numbers
  pub at_put_on : (pages before : List P) (page slot n t : ℕ) (found after : P) (v : V) → n ≡ page → t ≡ slot
      → n < length pages → t < 62 → found ≡ get_or pages n found
      → ((s : ℕ) → s < 62 → in_page after s ≡ cond (eqb t s) v (in_page found s))
      → ((p s : ℕ) → at pages p s ≡ at before p s)
      → (p s : ℕ)
      → at (set pages n after) p s ≡ cond (eqb page p && eqb slot s) v (at before p s)
  at_put_on pages before page slot n t found after v page_is slot_is within below there says same p s =
      let is = there ∙ get_or_default pages n found none within in
      at_put pages n t after v within below
      (λ k fits. says k fits ∙ ap (λ q. cond (eqb t k) v (in_page q k)) is) p s
      ∙ ap (cond (eqb n p && eqb t s) v) (same p s)
      ∙ ap (λ k. cond (eqb k p && eqb t s) v (at before p s)) page_is
      ∙ ap (λ k. cond (eqb page p && eqb k s) v (at before p s)) slot_is

  -- the page that was found says of a slot what the list did
  pub at_found : (pages before : List P) (page slot n t : ℕ) (found : P) → n ≡ page → t ≡ slot → n < length pages
      → t < 62 → found ≡ get_or pages n found → ((p s : ℕ) → at pages p s ≡ at before p s)
      → at before page slot ≡ in_page found t
  at_found pages before page slot n t found page_is slot_is within below there same =
      sym (at_there pages n t found below within there ∙ same n t
      ∙ ap (λ k. at before k t) page_is ∙ ap (λ k. at before page k) slot_is)

  -- what is put there says the same
  pub at_still : (pages before : List P) (n : ℕ) (found after : P) → n < length pages → found ≡ get_or pages n found
      → ((s : ℕ) → s < 62 → in_page after s ≡ in_page found s) → ((p s : ℕ) → at pages p s ≡ at before p s)
      → (p s : ℕ)
      → at (set pages n after) p s ≡ at before p s
  at_still pages before n found after within there says same p s = here (cases_eq n p) (cases_lt s 62) ∙ same p s
    where
      here : (n ≡ p) ⊎ (n ≢ p) → (s < 62) ⊎ (62 ≤ s) → at (set pages n after) p s ≡ at pages p s
      here (inl is) (inl fits) =
          ap (λ i. at (set pages n after) i s) (sym is)
          ∙ ap (λ q. cond (ltb s 62) (in_page q s) empty) (get_or-set_same pages n after none within)
          ∙ ap (λ v. cond (ltb s 62) v empty) (says s fits
          ∙ ap (λ q. in_page q s) (there ∙ get_or_default pages n found none within))
          ∙ ap (λ i. at pages i s) is
      here (inl is) (inr past) = at_no_slot (set pages n after) p s past ∙ sym (at_no_slot pages p s past)
      here (inr other) fits =
          ap (λ q. cond (ltb s 62) (in_page q s) empty) (get_or-set_other pages n p after none (λ e. other (sym e)))
