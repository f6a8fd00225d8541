-- The changes of a slot that are pending for a transaction.
use Rattle.std.proofs.Common.{◌≡◌, ◌≢◌, ℕ, ◌+◌, ◌-◌, ◌<◌, ◌≤◌, Bool, true, false, ◌&&◌, not, eqb, List, [], ◌∷◌, ◌++◌}
use Rattle.std.proofs.Common.{length, get_or, All, sym, refl, ap, subst, ◌∙◌, arith, eq-eqb, ne_eqb, eqb-true}
use Rattle.std.specs.Prelude.{None, IfSome, IsSomeAnd}
use Rattle.std.specs.List.{filter, flat_map, list_any}
use Rattle.std.proofs.lemmas.Bool.{and_parts, or_left, or_right}
use Rattle.std.proofs.lemmas.List.{take_all, take_more}
use Rattle.std.proofs.lemmas.List.Elements.{All-append, All-filter, All-head, All-map, All-nil, All-push, All-tail}
use Rattle.std.proofs.lemmas.List.Elements.{All-take}
use Rattle.std.proofs.lemmas.List.Folds.{flat_map-map}
use Rattle.std.proofs.lemmas.Option.{slice_get-get_or}
use Rattle.std.proofs.Math.Bool.{and-true}
use Rattle.std.proofs.lemmas.Map.Views.{any-filter_same}
use Rattle.page_core.specs.declared.change.Change.{Change}
use Rattle.page_core.specs.declared.change.ChangeKind.{ChangeKind}
use Rattle.log_rules.specs.declared.pending_change.PendingChange.{PendingChange}
use Rattle.log_records.specs.declared.record.Record.{Record}
use Rattle.log_records.specs.declared.record.Record.TheVariants.{Update, Comp}
use Rattle.log_records.specs.Record.{IsChange, change_of}
use Rattle.log_rules.specs.Transactions.{begun, holder, is_open, keeps_out, last_of, open_in, pending, pending_from}
use Rattle.log_rules.specs.Transactions.{records_of, txn_of, with_pending, without_last}
use Rattle.log_records.specs.Least.{least}
use Rattle.log_rules.proofs.Filters.{map_agree_but}
use Rattle.log_rules.proofs.Pushes.{pending_push, records_of_push_other}
use Rattle.log_rules.proofs.Begun.{open_has_begun}
use Rattle.log_rules.proofs.Slots.{changes_on, is_on}

-- ---- the changes of a slot that are pending for a transaction

abbrev pub own : List Record → ℕ → ℕ → ℕ → List Change
own rs page slot t = changes_on page slot (pending rs t)

-- the others of the open transactions
abbrev pub rest_of : List Record → ℕ → List ℕ
rest_of rs t = filter (λ o. not (eqb o t)) (open_in rs)

pub own_push_other : (rs : List Record) (r : Record) (page slot o : ℕ) → txn_of r ≢ o
    → own (rs ++ r ∷ []) page slot o ≡ own rs page slot o
own_push_other rs r page slot o other =
    ap (λ xs. changes_on page slot (pending_from [] xs)) (records_of_push_other rs r o other)

pub own_push : (rs : List Record) (r : Record) (page slot : ℕ)
    → own (rs ++ r ∷ []) page slot (txn_of r) ≡ changes_on page slot (with_pending (pending rs (txn_of r)) r)
own_push rs r page slot = ap (changes_on page slot) (pending_push rs r (txn_of r) refl)

pub flat_map_agree_but : {X : Type 0} (t : ℕ) (f g : ℕ → List X) → ((n : ℕ) → n ≢ t → f n ≡ g n)
    → (ns : List ℕ) → list_any (λ n. eqb n t) ns ≡ false → flat_map f ns ≡ flat_map g ns
flat_map_agree_but t f g agree ns out =
    sym (flat_map-map (λ xs. xs) f ns) ∙ ap (flat_map (λ xs. xs)) (map_agree_but t f g agree ns out)
    ∙ flat_map-map (λ xs. xs) g ns

-- ---- all numbers of the changes fit

abbrev pub HasChange : Record → Type 0
HasChange r = IfSome (change_of r) (λ c. IsChange c.change)

abbrev Valid : PendingChange → Type 0
Valid p = IsChange p.change

pending_valid : (changes : List PendingChange) (rs : List Record) → All Valid changes → All HasChange rs
    → All Valid (pending_from changes rs)
pending_valid changes [] before valid = before
pending_valid changes (r ∷ rs) before valid =
    pending_valid (with_pending changes r) rs (next r (All-head HasChange r rs valid)) (All-tail HasChange r rs valid)
  where
    next : (x : Record) → HasChange x → All Valid (with_pending changes x)
    next (Update lsn t prev page slot change) has = All-push Valid changes _ before has
    next (Comp lsn t prev undo_next page slot change) has = All-take Valid (length changes - 1) changes before
    next x has = before

pub own_valid : (rs : List Record) (page slot t : ℕ) → All HasChange rs → All IsChange (own rs page slot t)
own_valid rs page slot t valid =
    let its = All-filter (λ r. eqb (txn_of r) t) HasChange rs valid in
    let all = pending_valid [] (records_of rs t) (All-nil Valid) its in
    let here = All-filter (is_on page slot) Valid (pending rs t) all in
    All-map IsChange (λ p. p.change) (filter (is_on page slot) (pending rs t)) here

-- ---- what holds of the changes of each of several transactions holds of all

pub among_filter : (p : ℕ → Bool) (o : ℕ) (os : List ℕ) → list_any (λ n. eqb n o) (filter p os) ≡ true
    → (p o ≡ true) × (list_any (λ n. eqb n o) os ≡ true)
among_filter p o os found =
    let any = λ (ns : List ℕ). list_any (λ n. eqb n o) ns in
    and_parts (p o) (any os) (sym (any-filter_same (λ n. eqb n o) p (p o) (λ n is. ap p (eqb-true n o is)) os) ∙ found)

pub all_of_each : (P : Change → Type 0) (f : ℕ → List Change) (os : List ℕ)
    → ((o : ℕ) → list_any (λ n. eqb n o) os ≡ true → All P (f o)) → All P (flat_map f os)
all_of_each P f [] each = All-nil P
all_of_each P f (o ∷ os) each =
    let first = or_left (eqb o o) (list_any (λ n. eqb n o) os) (eq-eqb o o refl) in
    let others = λ (u : ℕ) (found : list_any (λ n. eqb n u) os ≡ true). each u (or_right (eqb o u) _ found) in
    All-append P (f o) (flat_map f os) (each o first) (all_of_each P f os others)

-- ---- the last pending change

pub last_change : (ps : List PendingChange) (P : PendingChange → Type 0) → IsSomeAnd (last_of ps) P
    → (p : PendingChange) × (ps ≡ without_last ps ++ p ∷ []) × P p
last_change [] P holds = absurd holds
last_change (q ∷ qs) P holds =
    let i = length (q ∷ qs) - 1 in
    let p = get_or (q ∷ qs) i q in
    let within : i < length (q ∷ qs) = omega arith in
    let all : length (q ∷ qs) ≤ i + 1 = omega arith in
    let whole = sym (take_all (i + 1) (q ∷ qs) all) ∙ take_more (q ∷ qs) i q within in
    (p, whole, subst (λ o. IsSomeAnd o P) (slice_get-get_or (q ∷ qs) i q within) holds)

-- ---- nobody else holds the slot

none_is_least : (ns : List ℕ) → least ns ≡ None → ns ≡ []
none_is_least [] none = refl
none_is_least (n ∷ ns) none = cc

pub free_of : (rs : List Record) (page slot : ℕ) (kind : ChangeKind) (t : ℕ) → holder rs page slot kind t ≡ None
    → (u : ℕ) → u ≢ t → is_open rs u ≡ true → list_any (keeps_out page slot kind) (pending rs u) ≡ false
free_of rs page slot kind t free u other still =
    let is = λ (n : ℕ). eqb n u in
    let holds = λ (o : ℕ). not (eqb o t) && list_any (keeps_out page slot kind) (pending rs o) in
    let kept = list_any (keeps_out page slot kind) (pending rs u) in
    let here : list_any is (open_in rs) ≡ true =
    any-filter_same is (is_open rs) true (λ n same. ap (is_open rs) (eqb-true n u same) ∙ still) (begun rs)
    ∙ open_has_begun rs u still in
    let nobody : filter holds (open_in rs) ≡ [] = none_is_least (filter holds (open_in rs)) free in
    let test : list_any is (filter holds (open_in rs)) ≡ (holds u && list_any is (open_in rs)) =
    any-filter_same is holds (holds u) (λ n same. ap holds (eqb-true n u same)) (open_in rs) in
    let not_held : holds u ≡ false =
    sym (and-true (holds u)) ∙ ap (λ b. holds u && b) (sym here) ∙ sym test ∙ ap (list_any is) nobody in
    ap (λ b. not b && kept) (sym (ne_eqb u t other)) ∙ not_held
