-- The entries of a list of rows: what a change of one row, one more row and one less make of them.
use Rattle.std.proofs.Common.{◌≡◌, ◌≢◌, ◌⊎◌, ◌∙◌, ◌<◌, ◌≤◌, ◌+◌, ◌++◌, ◌∷◌, ◌||◌, [], ℕ, zero, suc, Bool, true, false}
use Rattle.std.proofs.Common.{List, Some, None, map, length, get_or, set, take, cond, eqb, min, inl, inr, refl, sym, ap}
use Rattle.std.proofs.Common.{subst, add-one, zero-le, arith}
use Rattle.std.proofs.lemmas.Bool.{cases_Bool, cases_eq, cases_lt, eq-eqb, eqb-true, false≢true, le-leb, le-ltb, lt-leb}
use Rattle.std.proofs.lemmas.Bool.{lt-ltb, ltb-false, ne_eqb}
use Rattle.std.proofs.lemmas.List.{get_or-map, get_or-set_other, get_or-set_same, get_or_append_left, get_or_push}
use Rattle.std.proofs.lemmas.List.{length-map, length-set, length_push, same_lists, take_all}
use Rattle.std.proofs.lemmas.List.Edits.{get_or-remove_above, get_or-remove_below, length-remove}
use Rattle.std.proofs.lemmas.List.Elements.{filter_map-append}
use Rattle.std.proofs.lemmas.List.Folds.{list_any_none}
use Rattle.std.proofs.lemmas.List.Quantifiers.{position-Some}
use Rattle.std.proofs.lemmas.List.Sums.{fails_before_first, sum_by_more}
use Rattle.std.proofs.lemmas.Map.Steps.{le-length_from_below}
use Rattle.std.proofs.lemmas.Option.{slice_get-get_or, slice_get_cases, slice_get_past}
use Rattle.std.specs.Cmp.{nat_cmp_is}
use Rattle.std.specs.List.{cons_option, list_any, position, position_or_len, remove, slice_get, sum_by}
use Rattle.std.specs.declared.cmp.Ordering.TheVariants.{Less, Equal, Greater}
use Rattle.std.specs.Ordering.{is_ge, nat_cmp}
use lib.Dec.{leb, ltb}
use Rattle.txn_table.specs.declared.open_entry.OpenEntry.{OpenEntry}
use Rattle.slot_claims.specs.declared.row_set.RowSet.{RowSet}
use Rattle.slot_claims.specs.declared.row_set.TheConstants.{ROWS}
use Rattle.txn_table.specs.OpenEntry.{entry_view}
use Rattle.txn_table.specs.OpenList.{IsInRow, Sits, entries_of}
use Rattle.slot_claims.specs.RowSet.{LacksOne, has_row, no_rows}
use Rattle.log_rules.specs.Table.{owed_by_entry}
use Rattle.slot_claims.proofs.Public.{has_row-no_rows}
use Rattle.txn_table.proofs.Tracked.{no-place}

-- ---- the entries, place by place

abbrev pub AllThere : List ℕ → List OpenEntry → Type 0
AllThere order rows = (i : ℕ) → i < length order → get_or order i 0 < length rows

-- the entry of a row that is there
first-entry : (s : ℕ) (ss : List ℕ) (rows : List OpenEntry) (d : OpenEntry) → s < length rows
    → entries_of (s ∷ ss) rows ≡ get_or rows s d ∷ entries_of ss rows
first-entry s ss rows d lt =
    ap (λ o. cons_option o (entries_of ss rows)) (slice_get-get_or rows s d lt)

pub entries-map : (order : List ℕ) (rows : List OpenEntry) (d : OpenEntry) → AllThere order rows
    → entries_of order rows ≡ map (λ s. get_or rows s d) order
entries-map [] rows d there = refl
entries-map (s ∷ ss) rows d there =
    first-entry s ss rows d (there 0 (omega arith))
    ∙ ap (λ es. get_or rows s d ∷ es) (entries-map ss rows d (λ i lt. there (suc i) (omega arith)))

pub entries-at : (order : List ℕ) (rows : List OpenEntry) → AllThere order rows → (i : ℕ) (d : OpenEntry)
    → i < length order → get_or (entries_of order rows) i d ≡ get_or rows (get_or order i 0) d
entries-at order rows there i d lt =
    ap (λ es. get_or es i d) (entries-map order rows d there) ∙ get_or-map (λ s. get_or rows s d) order i 0 d lt

pub length-entries : (order : List ℕ) (rows : List OpenEntry) → AllThere order rows
    → length (entries_of order rows) ≡ length order
length-entries [] rows there = refl
length-entries (s ∷ ss) rows there = elim (slice_get_cases rows s).1 [
  | inl found ↦
      ap length (entries-map (s ∷ ss) rows found.0 there) ∙ length-map (s ∷ ss) (λ k. get_or rows k found.0)
  | inr past ↦ let within = there 0 (omega arith) in absurd (omega (arith, past.0))
]

-- rows that agree on a list have the same entries there
pub entries-same : (order : List ℕ) (old new : List OpenEntry) → AllThere order old → AllThere order new
    → ((i : ℕ) (d : OpenEntry) → i < length order → get_or new (get_or order i 0) d ≡ get_or old (get_or order i 0) d)
    → entries_of order new ≡ entries_of order old
entries-same order old new there now agree =
    same_lists (entries_of order new) (entries_of order old)
    (length-entries order new now ∙ sym (length-entries order old there))
    (λ k d lt.
    let within : k < length order = omega (arith, length-entries order new now) in
    entries-at order new now k d within ∙ agree k d within ∙ sym (entries-at order old there k d within))

-- ---- one entry changes

pub entries-set : (order : List ℕ) (rows : List OpenEntry) (taken : RowSet) (i s : ℕ) (e : OpenEntry)
    → IsInRow order rows taken → i < length order → get_or order i 0 ≡ s
    → entries_of order (set rows s e) ≡ set (entries_of order rows) i e
entries-set order rows taken i s e in_rows within here =
    let there : AllThere order rows = in_rows.there in
    let now : AllThere order (set rows s e) = λ k lt. omega (arith, there k lt, length-set rows s e) in
    let long = length-entries order rows there in
    same_lists (entries_of order (set rows s e)) (set (entries_of order rows) i e)
    (length-entries order (set rows s e) now ∙ sym (length-set (entries_of order rows) i e ∙ long))
    (λ k d lt.
    let below : k < length order = omega (arith, length-entries order (set rows s e) now) in
    let inside : s < length rows = omega (arith, here, there i within) in
    entries-at order (set rows s e) now k d below ∙ (elim (cases_eq k i) [
      | inl same ↦
          ap (λ n. get_or (set rows s e) n d) (ap (λ n. get_or order n 0) same ∙ here)
          ∙ get_or-set_same rows s e d inside
          ∙ sym (ap (λ n. get_or (set (entries_of order rows) i e) n d) same
          ∙ get_or-set_same (entries_of order rows) i e d (omega (arith, long)))
      | inr other ↦
          get_or-set_other rows s (get_or order k 0) e d
          (λ same. other (in_rows.apart k i below within (same ∙ sym here)))
          ∙ sym (get_or-set_other (entries_of order rows) i k e d other ∙ entries-at order rows there k d below)
    ]))

pub in_rows-set : (order : List ℕ) (rows : List OpenEntry) (taken : RowSet) (s : ℕ) (e : OpenEntry)
    → IsInRow order rows taken → s < length rows → e.row ≡ s → IsInRow order (set rows s e) taken
in_rows-set order rows taken s e in_rows within is = record {
  few = omega (arith, in_rows.few, length-set rows s e);
  own = λ k d lt. elim (cases_eq k s) [
    | inl same ↦
        ap (λ n. (get_or (set rows s e) n d).row) same
        ∙ ap (λ (x : OpenEntry). x.row) (get_or-set_same rows s e d within) ∙ is ∙ sym same
    | inr other ↦
        ap (λ (x : OpenEntry). x.row) (get_or-set_other rows s k e d other)
        ∙ in_rows.own k d (omega (arith, length-set rows s e))
  ];
  there = λ i lt. omega (arith, in_rows.there i lt, length-set rows s e);
  apart = in_rows.apart;
  stands = in_rows.stands;
  sits = in_rows.sits;
}

-- ---- one more

-- the entry on a row that was taken, and the others
pub record IsOn (old new : List OpenEntry) (s : ℕ) (e : OpenEntry) : Type 0 where
  pub long : length old ≤ length new
  pub few : length new ≤ ROWS
  pub within : s < length new
  pub on : (d : OpenEntry) → get_or new s d ≡ e
  pub others : (k : ℕ) (d : OpenEntry) → k < length new → k ≢ s → (k < length old) × (get_or new k d ≡ get_or old k d)

pub on-row : (old new : List OpenEntry) (s : ℕ) (e : OpenEntry) → length old ≤ ROWS → s < ROWS → s ≤ length old
    → new ≡ cond (ltb s (length old)) (set old s e) (old ++ e ∷ []) → IsOn old new s e
on-row old new s e few low most is = elim (cases_lt s (length old)) [
  | inl below ↦
      subst (λ xs. IsOn old xs s e) (sym (is
      ∙ ap (λ b. cond b (set old s e) (old ++ e ∷ [])) (lt-ltb s (length old) below)))
      (record {
        long = omega (arith, length-set old s e);
        few = omega (arith, length-set old s e);
        within = omega (arith, length-set old s e);
        on = λ d. get_or-set_same old s e d below;
        others = λ k d lt other. (omega (arith, length-set old s e), get_or-set_other old s k e d other);
      })
  | inr above ↦
      let last : s ≡ length old = omega arith in
      subst (λ xs. IsOn old xs s e) (sym (is
      ∙ ap (λ b. cond b (set old s e) (old ++ e ∷ [])) (le-ltb s (length old) above)))
      (record {
        long = omega (arith, length_push old e);
        few = omega (arith, length_push old e);
        within = omega (arith, length_push old e);
        on = λ d. get_or_push old e d s (sym last);
        others = λ k d lt other.
            let below : k < length old = omega (arith, length_push old e) in
            (below, get_or_append_left old (e ∷ []) d k below);
      })
]

module _ (order : List ℕ) (old new : List OpenEntry) (taken : RowSet) (s : ℕ) (e : OpenEntry)
    (in_rows : IsInRow order old taken)
    (free : has_row taken s ≡ false) (on : IsOn old new s e) where
  -- nobody of the order has the row
  elsewhere : (i : ℕ) → i < length order → get_or order i 0 ≢ s
  elsewhere i lt same = false≢true (sym free ∙ ap (has_row taken) (sym same) ∙ in_rows.stands i lt)

  still : AllThere order new
  still i lt = omega (arith, in_rows.there i lt, on.long)

  pub entries-add : entries_of (order ++ s ∷ []) new ≡ entries_of order old ++ e ∷ []
  entries-add =
      filter_map-append (slice_get new) order (s ∷ [])
      ∙ ap (λ es. es ++ entries_of (s ∷ []) new) (entries-same order old new in_rows.there still
      (λ i d lt. (on.others (get_or order i 0) d (still i lt) (elsewhere i lt)).1))
      ∙ ap (λ es. entries_of order old ++ es) (first-entry s [] new e on.within ∙ ap (λ x. x ∷ []) (on.on e))

  pub in_rows-add : (now : RowSet) → e.row ≡ s
      → ((other : ℕ) → other < ROWS → has_row now other ≡ cond (eqb other s) true (has_row taken other))
      → s < ROWS
      → IsInRow (order ++ s ∷ []) new now
  in_rows-add now is says low = record {
    few = on.few;
    own = λ k d lt. elim (cases_eq k s) [
      | inl same ↦
          ap (λ n. (get_or new n d).row) same ∙ ap (λ (x : OpenEntry). x.row) (on.on d) ∙ is ∙ sym same
      | inr other ↦
          let kept = on.others k d lt other in
          ap (λ (x : OpenEntry). x.row) kept.1 ∙ in_rows.own k d kept.0
    ];
    there = λ i lt. elim (cases_lt i (length order)) [
      | inl below ↦ subst (λ n. n < length new) (sym (get_or_append_left order (s ∷ []) 0 i below)) (still i below)
      | inr above ↦ subst (λ n. n < length new) (sym (at_end i lt above)) on.within
    ];
    apart = λ i j li lj same. both i j li lj same (cases_lt i (length order)) (cases_lt j (length order));
    stands = λ i lt. elim (cases_lt i (length order)) [
      | inl below ↦
          ap (has_row now) (get_or_append_left order (s ∷ []) 0 i below)
          ∙ (let low_i : get_or order i 0 < ROWS = omega (arith, in_rows.there i below, in_rows.few) in
          says (get_or order i 0) low_i
          ∙ ap (λ b. cond b true (has_row taken (get_or order i 0))) (ne_eqb (get_or order i 0) s (elsewhere i below))
          ∙ in_rows.stands i below)
      | inr above ↦
          ap (has_row now) (at_end i lt above) ∙ says s low
          ∙ ap (λ b. cond b true (has_row taken s)) (eq-eqb s s refl)
    ];
    sits = λ k low_k has. elim (cases_eq k s) [
      | inl same ↦
          (length order, (omega (arith, length_push order s), get_or_push order s 0 (length order) refl ∙ sym same))
      | inr other ↦
          let place = in_rows.sits k low_k (sym (ap (λ b. cond b true (has_row taken k)) (ne_eqb k s other))
          ∙ sym (says k low_k) ∙ has) in (
            place.0,
            (
              omega (arith, length_push order s, place.1.0),
              get_or_append_left order (s ∷ []) 0 place.0 place.1.0 ∙ place.1.1,
            ),
          )
    ];
  }
    where
      at_end : (i : ℕ) → i < length (order ++ s ∷ []) → length order ≤ i → get_or (order ++ s ∷ []) i 0 ≡ s
      at_end i lt above = get_or_push order s 0 i (omega (arith, length_push order s))

      both : (i j : ℕ) → i < length (order ++ s ∷ []) → j < length (order ++ s ∷ [])
          → get_or (order ++ s ∷ []) i 0 ≡ get_or (order ++ s ∷ []) j 0
          → (i < length order) ⊎ (length order ≤ i) → (j < length order) ⊎ (length order ≤ j) → i ≡ j
      both i j li lj same (inl bi) (inl bj) =
          in_rows.apart i j bi bj (sym (get_or_append_left order (s ∷ []) 0 i bi) ∙ same
          ∙ get_or_append_left order (s ∷ []) 0 j bj)
      both i j li lj same (inl bi) (inr aj) =
          absurd (elsewhere i bi (sym (get_or_append_left order (s ∷ []) 0 i bi) ∙ same ∙ at_end j lj aj))
      both i j li lj same (inr ai) (inl bj) =
          absurd (elsewhere j bj (sym (get_or_append_left order (s ∷ []) 0 j bj) ∙ sym same ∙ at_end i li ai))
      both i j li lj same (inr ai) (inr aj) = omega (arith, length_push order s)

-- ---- one less

pub entries-remove : (order : List ℕ) (rows : List OpenEntry) (i : ℕ) (d : OpenEntry) → AllThere order rows
    → i < length order → entries_of (remove order i) rows ≡ remove (entries_of order rows) i
entries-remove [] rows i d there lt = absurd (omega arith)
entries-remove (s ∷ ss) rows zero d there lt =
    sym (ap (λ es. remove es 0) (first-entry s ss rows d (there 0 (omega arith))))
entries-remove (s ∷ ss) rows (suc i) d there lt =
    first-entry s (remove ss i) rows d (there 0 (omega arith))
    ∙ ap (λ es. get_or rows s d ∷ es) (entries-remove ss rows i d (λ k l. there (suc k) (omega arith)) (omega arith))
    ∙ sym (ap (λ es. remove es (suc i)) (first-entry s ss rows d (there 0 (omega arith))))

module _ (order : List ℕ) (rows : List OpenEntry) (taken now : RowSet) (i s : ℕ) (in_rows : IsInRow order rows taken)
    (within : i < length order) (here : get_or order i 0 ≡ s)
    (says : (other : ℕ) → other < ROWS → has_row now other ≡ cond (eqb other s) false (has_row taken other)) where
  short : length (remove order i) + 1 ≡ length order
  short = length-remove order i within

  -- where a place of the shorter list was
  was : (k : ℕ) → k < length (remove order i)
      → (j : ℕ) × ((j < length order) × ((j ≢ i) × ((get_or (remove order i) k 0 ≡ get_or order j 0)
      × (((k < i) × (j ≡ k)) ⊎ ((i ≤ k) × (j ≡ k + 1))))))
  was k lt = elim (cases_lt k i) [
    | inl below ↦
        (k, (omega (arith, short), (omega arith, (get_or-remove_below order i 0 k below within, inl (below, refl)))))
    | inr above ↦ (
      k + 1,
      (
        omega (arith, short),
        (omega arith, (get_or-remove_above order i 0 k above within, inr (above, refl))),
      ),
    )
  ]

  low : (k : ℕ) → k < length order → get_or order k 0 < ROWS
  low k lt = omega (arith, in_rows.there k lt, in_rows.few)

  pub in_rows-remove : IsInRow (remove order i) rows now
  in_rows-remove = record {
    few = in_rows.few;
    own = in_rows.own;
    there = λ k lt. let at = was k lt in
        subst (λ n. n < length rows) (sym at.1.1.1.0) (in_rows.there at.0 at.1.0);
    apart = λ k m lk lm same.
        let a = was k lk in
        let b = was m lm in
        let equal : a.0 ≡ b.0 = in_rows.apart a.0 b.0 a.1.0 b.1.0 (sym a.1.1.1.0 ∙ same ∙ b.1.1.1.0) in
        back k m a.0 b.0 equal a.1.1.1.1 b.1.1.1.1;
    stands = λ k lt.
        let at = was k lt in
        let other : get_or order at.0 0 ≢ s = λ same. at.1.1.0 (in_rows.apart at.0 i at.1.0 within (same ∙ sym here)) in
        ap (has_row now) at.1.1.1.0 ∙ says (get_or order at.0 0) (low at.0 at.1.0)
        ∙ ap (λ b. cond b false (has_row taken (get_or order at.0 0))) (ne_eqb (get_or order at.0 0) s other)
        ∙ in_rows.stands at.0 at.1.0;
    sits = λ k low_k has. elim (cases_eq k s) [
      | inl same ↦ absurd (false≢true (sym (says k low_k
          ∙ ap (λ b. cond b false (has_row taken k)) (eq-eqb k s same)) ∙ has))
      | inr other ↦
          let place = in_rows.sits k low_k (sym (ap (λ b. cond b false (has_row taken k)) (ne_eqb k s other))
          ∙ sym (says k low_k) ∙ has) in
          now_at place.0 place.1.0 (λ same. other (sym place.1.1 ∙ ap (λ n. get_or order n 0) same ∙ here)) k place.1.1
    ];
  }
    where
      back : (k m a b : ℕ) → a ≡ b → ((k < i) × (a ≡ k)) ⊎ ((i ≤ k) × (a ≡ k + 1))
          → ((m < i) × (b ≡ m)) ⊎ ((i ≤ m) × (b ≡ m + 1)) → k ≡ m
      back k m a b e (inl x) (inl y) = omega (arith, x.0, x.1, y.0, y.1)
      back k m a b e (inl x) (inr y) = omega (arith, x.0, x.1, y.0, y.1)
      back k m a b e (inr x) (inl y) = omega (arith, x.0, x.1, y.0, y.1)
      back k m a b e (inr x) (inr y) = omega (arith, x.0, x.1, y.0, y.1)

      now_at : (p : ℕ) → p < length order → p ≢ i → (k : ℕ) → get_or order p 0 ≡ k
          → (j : ℕ) × ((j < length (remove order i)) × (get_or (remove order i) j 0 ≡ k))
      now_at p lt apart k is = elim (cases_lt p i) [
        | inl below ↦ (p, (omega (arith, short), get_or-remove_below order i 0 p below within ∙ is))
        | inr above ↦ behind p lt apart is above
      ]
        where
          behind : (q : ℕ) → q < length order → q ≢ i → get_or order q 0 ≡ k → i ≤ q
              → (j : ℕ) × ((j < length (remove order i)) × (get_or (remove order i) j 0 ≡ k))
          behind zero l ne e above = absurd (omega arith)
          behind (suc q) l ne e above = (
            q,
            (
              omega (arith, short),
              get_or-remove_above order i 0 q (omega arith) within ∙ ap (λ n. get_or order n 0) (add-one q) ∙ e,
            ),
          )

-- ---- nobody

pub in_rows-none : (rows : List OpenEntry) → rows ≡ [] → IsInRow [] rows no_rows
in_rows-none rows none = subst (λ xs. IsInRow [] xs no_rows) (sym none) (record {
  few = omega arith;
  own = λ s d lt. absurd (omega arith);
  there = λ i lt. absurd (omega arith);
  apart = λ i j li lj same. absurd (omega arith);
  stands = λ i lt. absurd (omega arith);
  sits = λ s low has. absurd (false≢true (sym (has_row-no_rows s) ∙ has));
})

-- ---- a free row

or_true : (x : Bool) → (x || true) ≡ true
or_true true = refl
or_true false = refl

any-at : (q : ℕ) (xs : List ℕ) (i : ℕ) → i < length xs → get_or xs i 0 ≡ q → list_any (eqb q) xs ≡ true
any-at q [] i lt is = absurd (omega arith)
any-at q (x ∷ xs) zero lt is = ap (λ b. b || list_any (eqb q) xs) (eq-eqb q x (sym is))
any-at q (x ∷ xs) (suc i) lt is = ap (λ b. eqb q x || b) (any-at q xs i (omega arith) is) ∙ or_true (eqb q x)

-- all of the first rows are taken, or one of them is not
all_or_one : (n : ℕ) (taken : RowSet)
    → ((s : ℕ) → s < n → has_row taken s ≡ true) ⊎ ((s : ℕ) × ((s < n) × (has_row taken s ≡ false)))
all_or_one zero taken = inl (λ s lt. absurd (omega arith))
all_or_one (suc n) taken = elim (all_or_one n taken) [
  | inr one ↦ inr (one.0, (omega (arith, one.1.0), one.1.1))
  | inl all ↦ elim (cases_Bool (has_row taken n)) [
    | inr free ↦ inr (n, (omega arith, free))
    | inl last ↦ inl (λ s lt. elim (cases_eq s n) [
      | inl same ↦ ap (has_row taken) same ∙ last
      | inr other ↦ all s (omega arith)
    ])
  ]
]

-- with room for one more, not every row is taken
pub lacks-one : (order : List ℕ) (rows : List OpenEntry) (taken : RowSet) → IsInRow order rows taken
    → length order < ROWS → LacksOne taken
lacks-one order rows taken in_rows room = elim (all_or_one ROWS taken) [
  | inr one ↦ record { row = one.0; within = one.1.0; lacks = one.1.1 }
  | inl all ↦
      let many = le-length_from_below order ROWS (λ q lt.
      let place = in_rows.sits q lt (all q lt) in any-at q order place.0 place.1.0 place.1.1) in
      absurd (omega (arith, many))
]

-- the lowest free row is at most the next one
pub next-row : (order : List ℕ) (rows : List OpenEntry) (taken : RowSet) (s : ℕ) → IsInRow order rows taken
    → s < ROWS → ((other : ℕ) → other < s → has_row taken other ≡ true) → s ≤ length rows
next-row order rows taken zero in_rows low below = zero-le
next-row order rows taken (suc s) in_rows low below =
    let place = in_rows.sits s (omega arith) (below s (omega arith)) in
    let there = in_rows.there place.0 place.1.0 in
    omega (arith, place.1.1, there)

-- no entry has a row that nobody has
pub nobody-on : (order : List ℕ) (rows : List OpenEntry) (taken : RowSet) (s : ℕ) → IsInRow order rows taken
    → has_row taken s ≡ false → list_any (λ e. eqb s e.row) (entries_of order rows) ≡ false
nobody-on order rows taken s in_rows free =
    list_any_none (λ e. eqb s e.row) (entries_of order rows) (λ i d lt.
    let within : i < length order = omega (arith, length-entries order rows in_rows.there) in
    let is : (get_or (entries_of order rows) i d).row ≡ get_or order i 0 =
    ap (λ (x : OpenEntry). x.row) (entries-at order rows in_rows.there i d within)
    ∙ in_rows.own (get_or order i 0) d (in_rows.there i within) in
    ne_eqb s (get_or (entries_of order rows) i d).row
    (λ same. false≢true (sym free ∙ ap (has_row taken) (same ∙ is) ∙ in_rows.stands i within)))

-- ---- who sits on a row

pub sits-at : (order : List ℕ) (rows : List OpenEntry) (taken : RowSet) (txn row : ℕ) (d : OpenEntry)
    → IsInRow order rows taken → (sits : Sits order rows txn row)
    → (sits.place < length (entries_of order rows))
    × (get_or (entries_of order rows) sits.place d ≡ get_or rows row d)
sits-at order rows taken txn row d in_rows sits = (
  omega (arith, length-entries order rows in_rows.there, sits.within),
  entries-at order rows in_rows.there sits.place d sits.within ∙ ap (λ n. get_or rows n d) sits.row_is,
)

-- the entry that a walk along the order meets
pub meets : (order os : List ℕ) (rows : List OpenEntry) (taken : RowSet) (k : ℕ) (x : OpenEntry)
    → IsInRow order rows taken → os ≡ order → k < length os → x ≡ get_or rows (get_or os k 0) x
    → (k < length (entries_of order rows)) × (get_or (entries_of order rows) k x ≡ x)
meets order os rows taken k x in_rows same lt is =
    let within : k < length order = subst (λ (xs : List ℕ). k < length xs) same lt in (
      omega (arith, length-entries order rows in_rows.there),
      entries-at order rows in_rows.there k x within
          ∙ ap (λ (xs : List ℕ). get_or rows (get_or xs k 0) x) (sym same) ∙ sym is,
    )

-- at the end it has met all
pub met-all : (order os : List ℕ) (rows : List OpenEntry) (taken : RowSet) (n : ℕ) → IsInRow order rows taken
    → os ≡ order → length os ≤ n → take n (entries_of order rows) ≡ entries_of order rows
met-all order os rows taken n in_rows same end =
    let long : length os ≡ length order = ap (λ (xs : List ℕ). length xs) same in
    take_all n (entries_of order rows) (omega (arith, length-entries order rows in_rows.there))

-- and it knows its row
pub own-row : (order os : List ℕ) (rows : List OpenEntry) (taken : RowSet) (k : ℕ) (x : OpenEntry)
    → IsInRow order rows taken → os ≡ order → k < length os → x ≡ get_or rows (get_or os k 0) x
    → x.row ≡ get_or os k 0
own-row order os rows taken k x in_rows same lt is =
    let within : k < length order = subst (λ (xs : List ℕ). k < length xs) same lt in
    let below : get_or os k 0 < length rows =
    subst (λ (xs : List ℕ). get_or xs k 0 < length rows) (sym same) (in_rows.there k within) in
    ap (λ (e : OpenEntry). e.row) is ∙ in_rows.own (get_or os k 0) x below

pub below-rows : (order os : List ℕ) (rows : List OpenEntry) (taken : RowSet) (k : ℕ)
    → IsInRow order rows taken → os ≡ order → k < length os → get_or os k 0 < length rows
below-rows order os rows taken k in_rows same lt =
    subst (λ (xs : List ℕ). get_or xs k 0 < length rows) (sym same)
    (in_rows.there k (subst (λ (xs : List ℕ). k < length xs) same lt))

-- the entry at a place of the order is that of its row
pub entry-on : (order os : List ℕ) (rows : List OpenEntry) (taken : RowSet) (i : ℕ) (d : OpenEntry)
    → IsInRow order rows taken → os ≡ order → i < length os
    → slice_get (entries_of order rows) i ≡ Some (get_or rows (get_or os i 0) d)
entry-on order os rows taken i d in_rows same lt =
    let within : i < length order = subst (λ (xs : List ℕ). i < length xs) same lt in
    slice_get-get_or (entries_of order rows) i d (omega (arith, length-entries order rows in_rows.there))
    ∙ ap Some (entries-at order rows in_rows.there i d within
    ∙ ap (λ (xs : List ℕ). get_or rows (get_or xs i 0) d) (sym same))

-- and behind its end there is none
pub no-entry-on : (order os : List ℕ) (rows : List OpenEntry) (taken : RowSet) (i : ℕ)
    → IsInRow order rows taken → os ≡ order → length os ≤ i → slice_get (entries_of order rows) i ≡ None
no-entry-on order os rows taken i in_rows same past =
    let long : length os ≡ length order = ap (λ (xs : List ℕ). length xs) same in
    slice_get_past (entries_of order rows) i (omega (arith, length-entries order rows in_rows.there))

pub ge-leb : (a b : ℕ) → is_ge (nat_cmp a b) ≡ leb b a
ge-leb a b = elim (cases_lt a b) [
  | inl below ↦ ap is_ge (sym (nat_cmp_is a b Less below)) ∙ sym (lt-leb b a below)
  | inr above ↦ elim (cases_eq a b) [
    | inl same ↦ ap is_ge (sym (nat_cmp_is a b Equal same)) ∙ sym (le-leb b a above)
    | inr other ↦ ap is_ge (sym (nat_cmp_is a b Greater (omega arith))) ∙ sym (le-leb b a above)
  ]
]

-- the records that one entry more may need
pub owed-more : (xs : List OpenEntry) (k : ℕ) (x : OpenEntry) (owed one sum : ℕ) → k < length xs → get_or xs k x ≡ x
    → owed ≡ min (sum_by (λ e. owed_by_entry (entry_view e)) (take k xs)) 18446744073709551615
    → one ≡ min (owed_by_entry (entry_view x)) 18446744073709551615
    → sum ≡ min (owed + one) 18446744073709551615
    → sum ≡ min (sum_by (λ e. owed_by_entry (entry_view e)) (take (k + 1) xs)) 18446744073709551615
owed-more xs k x owed one sum lt is so_far this all =
    let more : sum_by (λ e. owed_by_entry (entry_view e)) (take (k + 1) xs)
    ≡ sum_by (λ e. owed_by_entry (entry_view e)) (take k xs) + owed_by_entry (entry_view x) =
    sum_by_more (λ e. owed_by_entry (entry_view e)) xs k x lt
    ∙ ap (λ e. sum_by (λ e. owed_by_entry (entry_view e)) (take k xs) + owed_by_entry (entry_view e)) is in
    omega (arith, more)

-- a row that the order has is found there
pub must-stand : (order : List ℕ) (row place : ℕ) → place < length order → get_or order place 0 ≡ row
    → None ≡ position (λ s. eqb s row) order → ⊥
must-stand order row place lt is none =
    let p : ℕ → Bool = λ s. eqb s row in
    let n = position_or_len p order in
    let past : length order ≤ n = ltb-false n (length order) (no-place (ltb n (length order)) n (sym none)) in
    false≢true (sym (fails_before_first p order place 0 (omega (arith, past))) ∙ eq-eqb (get_or order place 0) row is)

-- and only at its place
pub one-place : (order : List ℕ) (rows : List OpenEntry) (taken : RowSet) (row i place : ℕ)
    → IsInRow order rows taken → Some i ≡ position (λ s. eqb s row) order → place < length order
    → get_or order place 0 ≡ row → (i < length order) × (get_or order i 0 ≡ row) × (i ≡ place)
one-place order rows taken row i place in_rows found lt is =
    let at = position-Some (λ s. eqb s row) order i 0 (sym found) in
    let here : get_or order i 0 ≡ row = eqb-true (get_or order i 0) row at.1 in
    (at.0, here, in_rows.apart i place at.0 lt (here ∙ sym is))
