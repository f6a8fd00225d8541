-- Open transactions in the order of their numbers: what a change of one leaves of the others.
use Rattle.std.proofs.Common.{◌≡◌, ◌≢◌, ◌∙◌, ◌<◌, ◌++◌, ◌∷◌, ◌⊎◌, [], inl, inr, ℕ, zero, suc, Bool, true, false, not}
use Rattle.std.proofs.Common.{List, Some, map, length, get_or, set, cond, eqb, refl, sym, ap, subst, arith}
use Rattle.std.proofs.lemmas.Bool.{eq-eqb, eqb-true, ne_eqb}
use Rattle.std.proofs.lemmas.List.{get_or-map, map-set, set-get_or}
use Rattle.std.specs.List.{AllByRecursion, filter, find, remove}
use Rattle.slot_claims.specs.declared.claims.Hold.{Hold}
use Rattle.txn_table.specs.declared.open_entry.OpenEntry.{OpenEntry}
use Rattle.slot_claims.specs.Claims.{no_hold}
use Rattle.txn_table.specs.OpenEntry.{changes_of, entry_view, hold_among, hold_by}
use Rattle.txn_table.specs.OpenTransactions.{AreRanked, key_of}
use Rattle.log_rules.specs.Table.{TxnEntry}

-- ---- keys

all-weaker : (P Q : ℕ × ℕ → Type 0) → ((k : ℕ × ℕ) → P k → Q k) → (ks : List (ℕ × ℕ)) → AllByRecursion P ks
    → AllByRecursion Q ks
all-weaker P Q h [] a = tt
all-weaker P Q h (k ∷ ks) a = (h k a.0, all-weaker P Q h ks a.1)

pub all-push : (P : ℕ × ℕ → Type 0) (ks : List (ℕ × ℕ)) (k : ℕ × ℕ) → AllByRecursion P ks → P k
    → AllByRecursion P (ks ++ k ∷ [])
all-push P [] k a p = (p, tt)
all-push P (j ∷ js) k a p = (a.0, all-push P js k a.1 p)

all-at : (P : ℕ × ℕ → Type 0) (xs : List OpenEntry) (i : ℕ) (d : OpenEntry) → AllByRecursion P (map key_of xs)
    → i < length xs → P (key_of (get_or xs i d))
all-at P [] i d a l = absurd (omega arith)
all-at P (x ∷ xs) zero d a l = a.0
all-at P (x ∷ xs) (suc i) d a l = all-at P xs i d a.1 (omega arith)

pub all-remove : (P : ℕ × ℕ → Type 0) (xs : List OpenEntry) (i : ℕ) → AllByRecursion P (map key_of xs)
    → i < length xs → AllByRecursion P (map key_of (remove xs i))
all-remove P [] i a l = absurd (omega arith)
all-remove P (x ∷ xs) zero a l = a.1
all-remove P (x ∷ xs) (suc i) a l = (a.0, all-remove P xs i a.1 (omega arith))

pub ranked-remove : (xs : List OpenEntry) (i : ℕ) → AreRanked (map key_of xs) → i < length xs
    → AreRanked (map key_of (remove xs i))
ranked-remove [] i r l = absurd (omega arith)
ranked-remove (x ∷ xs) zero r l = r.1
ranked-remove (x ∷ xs) (suc i) r l =
    let lt : i < length xs = omega arith in
    (all-remove (λ j. (x.txn < j.0) × (j.1 ≢ x.row)) xs i r.0 lt, ranked-remove xs i r.1 lt)

pub ranked-push : (ks : List (ℕ × ℕ)) (k : ℕ × ℕ) → AreRanked ks → AllByRecursion (λ j. (j.0 < k.0) × (k.1 ≢ j.1)) ks
    → AreRanked (ks ++ k ∷ [])
ranked-push [] k r a = (tt, tt)
ranked-push (j ∷ js) k r a = (all-push (λ m. (j.0 < m.0) × (m.1 ≢ j.1)) js k r.0 a.0, ranked-push js k r.1 a.1)

pub keys-set : (xs : List OpenEntry) (i : ℕ) (d e : OpenEntry) → i < length xs → e.txn ≡ (get_or xs i d).txn
    → e.row ≡ (get_or xs i d).row → map key_of (set xs i e) ≡ map key_of xs
keys-set xs i d e l t s =
    let same : key_of e ≡ key_of (get_or xs i d)
    = ap (λ (n : ℕ). let p : ℕ × ℕ = (n, e.row) in p) t
    ∙ ap (λ (n : ℕ). let p : ℕ × ℕ = ((get_or xs i d).txn, n) in p) s in
    map-set key_of xs i e ∙ ap (λ k. set (map key_of xs) i k) (same ∙ sym (get_or-map key_of xs i d (0, 0) l))
    ∙ set-get_or (map key_of xs) i (0, 0)

-- two places with one number or one row are the same
pub one-of : (xs : List OpenEntry) (i j : ℕ) (d : OpenEntry) → AreRanked (map key_of xs) → i < length xs
    → j < length xs
    → ((get_or xs i d).txn ≡ (get_or xs j d).txn) ⊎ ((get_or xs i d).row ≡ (get_or xs j d).row) → i ≡ j
one-of [] i j d r li lj same = absurd (omega arith)
one-of (x ∷ xs) zero zero d r li lj same = refl
one-of (x ∷ xs) zero (suc j) d r li lj (inl same) =
    let after = all-at (λ k. (x.txn < k.0) × (k.1 ≢ x.row)) xs j d r.0 (omega arith) in
    let below : x.txn < x.txn = subst (λ n. x.txn < n) (sym same) after.0 in absurd (omega arith)
one-of (x ∷ xs) zero (suc j) d r li lj (inr same) =
    absurd ((all-at (λ k. (x.txn < k.0) × (k.1 ≢ x.row)) xs j d r.0 (omega arith)).1 (sym same))
one-of (x ∷ xs) (suc i) zero d r li lj (inl same) =
    let after = all-at (λ k. (x.txn < k.0) × (k.1 ≢ x.row)) xs i d r.0 (omega arith) in
    let below : x.txn < x.txn = subst (λ n. x.txn < n) same after.0 in absurd (omega arith)
one-of (x ∷ xs) (suc i) zero d r li lj (inr same) =
    absurd ((all-at (λ k. (x.txn < k.0) × (k.1 ≢ x.row)) xs i d r.0 (omega arith)).1 same)
one-of (x ∷ xs) (suc i) (suc j) d r li lj same = ap suc (one-of xs i j d r.1 (omega arith) (omega arith) same)

-- ---- what a contract sees of them

later-kept : (g : TxnEntry → TxnEntry) (t : ℕ) (xs : List OpenEntry) → AllByRecursion (λ k. t < k.0) (map key_of xs)
    → map (λ v. cond (eqb v.txn t) (g v) v) (map entry_view xs) ≡ map entry_view xs
later-kept g t [] a = refl
later-kept g t (x ∷ xs) a =
    let apart : x.txn ≢ t = omega (arith, a.0) in
    ap (λ b. cond b (g (entry_view x)) (entry_view x) ∷ map (λ v. cond (eqb v.txn t) (g v) v) (map entry_view xs))
    (ne_eqb x.txn t apart)
    ∙ ap (λ vs. entry_view x ∷ vs) (later-kept g t xs a.1)

pub view-set : (g : TxnEntry → TxnEntry) (t : ℕ) (xs : List OpenEntry) (i : ℕ) (d e : OpenEntry) → AreRanked (map key_of xs)
    → i < length xs → (get_or xs i d).txn ≡ t → entry_view e ≡ g (entry_view (get_or xs i d))
    → map (λ v. cond (eqb v.txn t) (g v) v) (map entry_view xs) ≡ map entry_view (set xs i e)
view-set g t [] i d e r l h is = absurd (omega arith)
view-set g t (x ∷ xs) zero d e r l h is =
    let after : AllByRecursion (λ k. t < k.0) (map key_of xs)
    = all-weaker (λ k. (x.txn < k.0) × (k.1 ≢ x.row)) (λ k. t < k.0) (λ k p. subst (λ n. n < k.0) h p.0)
    (map key_of xs) r.0 in
    ap (λ b. cond b (g (entry_view x)) (entry_view x) ∷ map (λ v. cond (eqb v.txn t) (g v) v) (map entry_view xs))
    (eq-eqb x.txn t h)
    ∙ ap (λ v. v ∷ map (λ v. cond (eqb v.txn t) (g v) v) (map entry_view xs)) (sym is)
    ∙ ap (λ vs. entry_view e ∷ vs) (later-kept g t xs after)
view-set g t (x ∷ xs) (suc i) d e r l h is =
    let lt : i < length xs = omega arith in
    let before = all-at (λ k. (x.txn < k.0) × (k.1 ≢ x.row)) xs i d r.0 lt in
    let apart : x.txn ≢ t = λ same. (let below : x.txn < t
    = subst (λ n. x.txn < n) h before.0 in absurd (omega arith)) in
    ap (λ b. cond b (g (entry_view x)) (entry_view x) ∷ map (λ v. cond (eqb v.txn t) (g v) v) (map entry_view xs))
    (ne_eqb x.txn t apart)
    ∙ ap (λ vs. entry_view x ∷ vs) (view-set g t xs i d e r.1 lt h is)

all-kept : (t : ℕ) (xs : List OpenEntry) → AllByRecursion (λ k. t < k.0) (map key_of xs)
    → filter (λ v. not (eqb v.txn t)) (map entry_view xs) ≡ map entry_view xs
all-kept t [] a = refl
all-kept t (x ∷ xs) a =
    let apart : x.txn ≢ t = omega (arith, a.0) in
    let rest = filter (λ v. not (eqb v.txn t)) (map entry_view xs) in
    ap (λ b. cond (not b) (entry_view x ∷ rest) rest) (ne_eqb x.txn t apart)
    ∙ ap (λ vs. entry_view x ∷ vs) (all-kept t xs a.1)

pub view-remove : (t : ℕ) (xs : List OpenEntry) (i : ℕ) (d : OpenEntry) → AreRanked (map key_of xs)
    → i < length xs → (get_or xs i d).txn ≡ t
    → filter (λ v. not (eqb v.txn t)) (map entry_view xs) ≡ map entry_view (remove xs i)
view-remove t [] i d r l h = absurd (omega arith)
view-remove t (x ∷ xs) zero d r l h =
    let after : AllByRecursion (λ k. t < k.0) (map key_of xs)
    = all-weaker (λ k. (x.txn < k.0) × (k.1 ≢ x.row)) (λ k. t < k.0) (λ k p. subst (λ n. n < k.0) h p.0)
    (map key_of xs) r.0 in
    let rest = filter (λ v. not (eqb v.txn t)) (map entry_view xs) in
    ap (λ b. cond (not b) (entry_view x ∷ rest) rest) (eq-eqb x.txn t h) ∙ all-kept t xs after
view-remove t (x ∷ xs) (suc i) d r l h =
    let lt : i < length xs = omega arith in
    let before = all-at (λ k. (x.txn < k.0) × (k.1 ≢ x.row)) xs i d r.0 lt in
    let apart : x.txn ≢ t = λ same. (let below : x.txn < t
    = subst (λ n. x.txn < n) h before.0 in absurd (omega arith)) in
    let rest = filter (λ v. not (eqb v.txn t)) (map entry_view xs) in
    ap (λ b. cond (not b) (entry_view x ∷ rest) rest) (ne_eqb x.txn t apart)
    ∙ ap (λ vs. entry_view x ∷ vs) (view-remove t xs i d r.1 lt h)

pub find-at : (t : ℕ) (xs : List OpenEntry) (i : ℕ) (d : OpenEntry) → AreRanked (map key_of xs)
    → i < length xs → (get_or xs i d).txn ≡ t → find (λ e. eqb e.txn t) xs ≡ Some (get_or xs i d)
find-at t [] i d r l h = absurd (omega arith)
find-at t (x ∷ xs) zero d r l h = ap (λ b. cond b (Some x) (find (λ e. eqb e.txn t) xs)) (eq-eqb x.txn t h)
find-at t (x ∷ xs) (suc i) d r l h =
    let lt : i < length xs = omega arith in
    let before = all-at (λ k. (x.txn < k.0) × (k.1 ≢ x.row)) xs i d r.0 lt in
    let apart : x.txn ≢ t = λ same. (let below : x.txn < t
    = subst (λ n. x.txn < n) h before.0 in absurd (omega arith)) in
    ap (λ b. cond b (Some x) (find (λ e. eqb e.txn t) xs)) (ne_eqb x.txn t apart)
    ∙ find-at t xs i d r.1 lt h

-- ---- what they keep out

pub hold-at : (xs : List OpenEntry) (i : ℕ) (d : OpenEntry) (page slot : ℕ) → AreRanked (map key_of xs) → i < length xs
    → hold_among xs page slot (get_or xs i d).row ≡ hold_by (changes_of (get_or xs i d).pending.items) page slot
hold-at [] i d page slot r l = absurd (omega arith)
hold-at (x ∷ xs) zero d page slot r l =
    ap (λ b. cond b (hold_by (changes_of x.pending.items) page slot) (hold_among xs page slot x.row))
    (eq-eqb x.row x.row refl)
hold-at (x ∷ xs) (suc i) d page slot r l =
    let lt : i < length xs = omega arith in
    let before = all-at (λ k. (x.txn < k.0) × (k.1 ≢ x.row)) xs i d r.0 lt in
    let s = (get_or xs i d).row in
    ap (λ b. cond b (hold_by (changes_of x.pending.items) page slot) (hold_among xs page slot s))
    (ne_eqb x.row s (λ same. before.1 (sym same)))
    ∙ hold-at xs i d page slot r.1 lt

twice : (a b : Bool) (u v w : Hold) → a ≡ b → cond a u w ≡ cond a u (cond b v w)
twice true b u v w e = refl
twice false b u v w e = ap (λ t. cond t v w) e

swapped : (a b : Bool) (u v w : Hold) → (a ≡ true → b ≡ true → ⊥) → cond a u (cond b v w) ≡ cond b v (cond a u w)
swapped true true u v w never = absurd (never refl refl)
swapped true false u v w never = refl
swapped false b u v w never = refl

pub hold-set : (xs : List OpenEntry) (i : ℕ) (d e : OpenEntry) (page slot s : ℕ) → AreRanked (map key_of xs)
    → i < length xs
    → e.row ≡ (get_or xs i d).row
    → hold_among (set xs i e) page slot s
    ≡ cond (eqb e.row s) (hold_by (changes_of e.pending.items) page slot) (hold_among xs page slot s)
hold-set [] i d e page slot s r l h = absurd (omega arith)
hold-set (x ∷ xs) zero d e page slot s r l h =
    twice (eqb e.row s) (eqb x.row s) (hold_by (changes_of e.pending.items) page slot)
    (hold_by (changes_of x.pending.items) page slot) (hold_among xs page slot s) (ap (λ n. eqb n s) h)
hold-set (x ∷ xs) (suc i) d e page slot s r l h =
    let lt : i < length xs = omega arith in
    let before = all-at (λ k. (x.txn < k.0) × (k.1 ≢ x.row)) xs i d r.0 lt in
    ap (λ w. cond (eqb x.row s) (hold_by (changes_of x.pending.items) page slot) w)
    (hold-set xs i d e page slot s r.1 lt h)
    ∙ swapped (eqb x.row s) (eqb e.row s) (hold_by (changes_of x.pending.items) page slot)
    (hold_by (changes_of e.pending.items) page slot) (hold_among xs page slot s)
    (λ a b. before.1 (sym h ∙ eqb-true e.row s b ∙ sym (eqb-true x.row s a)))

hold_by-nil : (page slot : ℕ) → hold_by [] page slot ≡ no_hold
unfolding hold_by
hold_by-nil page slot = refl

cond-same : (b : Bool) (x y : Hold) → x ≡ y → cond b x y ≡ y
cond-same true x y e = e
cond-same false x y e = refl

none-out : (e : OpenEntry) (page slot : ℕ) → e.pending.items ≡ []
    → hold_by (changes_of e.pending.items) page slot ≡ no_hold
none-out e page slot none = ap (λ ps. hold_by (changes_of ps) page slot) none ∙ hold_by-nil page slot

pub hold-push : (xs : List OpenEntry) (e : OpenEntry) (page slot s : ℕ) → e.pending.items ≡ []
    → hold_among (xs ++ e ∷ []) page slot s ≡ hold_among xs page slot s
hold-push [] e page slot s none =
    cond-same (eqb e.row s) (hold_by (changes_of e.pending.items) page slot) no_hold (none-out e page slot none)
hold-push (x ∷ xs) e page slot s none =
    ap (λ w. cond (eqb x.row s) (hold_by (changes_of x.pending.items) page slot) w) (hold-push xs e page slot s none)

hold-none : (xs : List OpenEntry) (page slot s : ℕ) → AllByRecursion (λ k. k.1 ≢ s) (map key_of xs)
    → hold_among xs page slot s ≡ no_hold
hold-none [] page slot s a = refl
hold-none (x ∷ xs) page slot s a =
    ap (λ b. cond b (hold_by (changes_of x.pending.items) page slot) (hold_among xs page slot s)) (ne_eqb x.row s a.0)
    ∙ hold-none xs page slot s a.1

first-out : (b : Bool) (x w : Hold) → x ≡ no_hold → (b ≡ true → w ≡ no_hold) → w ≡ cond b x w
first-out true x w e h = h refl ∙ sym e
first-out false x w e h = refl

pub hold-remove : (xs : List OpenEntry) (i : ℕ) (d : OpenEntry) (page slot s : ℕ) → AreRanked (map key_of xs)
    → i < length xs
    → (get_or xs i d).pending.items ≡ [] → hold_among (remove xs i) page slot s ≡ hold_among xs page slot s
hold-remove [] i d page slot s r l none = absurd (omega arith)
hold-remove (x ∷ xs) zero d page slot s r l none =
    first-out (eqb x.row s) (hold_by (changes_of x.pending.items) page slot) (hold_among xs page slot s)
    (none-out x page slot none)
    (λ same. hold-none xs page slot s
    (all-weaker (λ k. (x.txn < k.0) × (k.1 ≢ x.row)) (λ k. k.1 ≢ s) (λ k p e. p.1 (e ∙ sym (eqb-true x.row s same)))
    (map key_of xs) r.0))
hold-remove (x ∷ xs) (suc i) d page slot s r l none =
    ap (λ w. cond (eqb x.row s) (hold_by (changes_of x.pending.items) page slot) w)
    (hold-remove xs i d page slot s r.1 (omega arith) none)
