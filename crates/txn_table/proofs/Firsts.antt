-- The first entry that passes a test has the least number of those that do.
use Rattle.std.proofs.Common.{zero, suc, add-one, ◌+◌, take, ◌≡◌, ◌≢◌, ◌∙◌, ◌<◌, ◌∷◌, [], ℕ, Bool, true, false, List}
use Rattle.std.proofs.Common.{Option, Some, None, map, length, get_or, cond, min, refl, ap, arith}
use Rattle.std.proofs.lemmas.List.Elements.{All-head, All-tail}
use Rattle.std.specs.List.{All, AllByRecursion, filter, find}
use Rattle.std.specs.Option.{IfSome, option_map, option_map_or}
use Rattle.txn_table.specs.declared.open_entry.OpenEntry.{OpenEntry}
use Rattle.txn_table.specs.OpenEntry.{entry_view}
use Rattle.txn_table.specs.OpenTransactions.{AreRanked, key_of}
use Rattle.log_rules.specs.Table.{TxnEntry}
use Rattle.log_records.specs.Least.{least}

pub find-none : (q : OpenEntry → Bool) → ((e : OpenEntry) → q e ≡ false) → (xs : List OpenEntry) → find q xs ≡ None
find-none q h [] = refl
find-none q h (x ∷ xs) = ap (λ b. cond b (Some x) (find q xs)) (h x) ∙ find-none q h xs

cond_some : (b : Bool) (n : ℕ) (x : OpenEntry) (o : Option OpenEntry) → n < x.txn → IfSome o (λ y. n < y.txn)
    → IfSome (cond b (Some x) o) (λ y. n < y.txn)
cond_some true n x o l h = l
cond_some false n x o l h = h

above : (n s : ℕ) (q : OpenEntry → Bool) (xs : List OpenEntry)
    → AllByRecursion (λ k. (n < k.0) × (k.1 ≢ s)) (map key_of xs)
    → IfSome (find q xs) (λ y. n < y.txn)
above n s q [] a = tt
above n s q (x ∷ xs) a = cond_some (q x) n x (find q xs) a.0.0 (above n s q xs a.1)

least-of : (n : ℕ) (o : Option OpenEntry) → IfSome o (λ y. n < y.txn)
    → option_map_or (min n) (option_map (λ e. e.txn) o) n ≡ n
least-of n None h = refl
least-of n (Some y) h = omega (arith, h)

chosen : (b : Bool) (x : OpenEntry) (ns : List ℕ) (o : Option OpenEntry) → least ns ≡ option_map (λ e. e.txn) o
    → IfSome o (λ y. x.txn < y.txn)
    → least (cond b (x.txn ∷ ns) ns) ≡ option_map (λ e. e.txn) (cond b (Some x) o)
chosen true x ns o e h = ap (λ m. Some (option_map_or (min x.txn) m x.txn)) e ∙ ap Some (least-of x.txn o h)
chosen false x ns o e h = e

pub cond_map : (b : Bool) (v : TxnEntry) (vs : List TxnEntry)
    → map (λ e. e.txn) (cond b (v ∷ vs) vs) ≡ cond b (v.txn ∷ map (λ e. e.txn) vs) (map (λ e. e.txn) vs)
cond_map true v vs = refl
cond_map false v vs = refl

pub least-first : (p : TxnEntry → Bool) (q : OpenEntry → Bool) (xs : List OpenEntry) → AreRanked (map key_of xs)
    → All (λ e. p (entry_view e) ≡ q e) xs
    → least (map (λ e. e.txn) (filter p (map entry_view xs))) ≡ option_map (λ e. e.txn) (find q xs)
least-first p q [] r a = refl
least-first p q (x ∷ xs) r a =
    let vs = filter p (map entry_view xs) in
    ap least (cond_map (p (entry_view x)) (entry_view x) vs)
    ∙ ap (λ b. least (cond b (x.txn ∷ map (λ e. e.txn) vs) (map (λ e. e.txn) vs)))
    (All-head (λ e. p (entry_view e) ≡ q e) x xs a)
    ∙ chosen (q x) x (map (λ e. e.txn) vs) (find q xs)
    (least-first p q xs r.1 (All-tail (λ e. p (entry_view e) ≡ q e) x xs a)) (above x.txn x.row q xs r.0)

-- ---- the first that passes, in a loop

passed : (b : Bool) (x : OpenEntry) (o r : Option OpenEntry) → cond b (Some x) o ≡ None → (o ≡ None → r ≡ None)
    → cond b (Some x) r ≡ None
passed true x o r e h = e
passed false x o r e h = h e

pub find-more : (q : OpenEntry → Bool) (xs : List OpenEntry) (i : ℕ) (d : OpenEntry) → i < length xs
    → find q (take i xs) ≡ None
    → q (get_or xs i d) ≡ false → find q (take (i + 1) xs) ≡ None
find-more q [] i d l none fails = absurd (omega arith)
find-more q (x ∷ xs) zero d l none fails = ap (λ b. cond b (Some x) None) fails
find-more q (x ∷ xs) (suc i) d l none fails =
    rw add-one (passed (q x) x (find q (take i xs)) (find q (take (suc i) xs)) none
    (λ rest. rw add-one at (find-more q xs i d (omega arith) rest fails)))

later : (b : Bool) (x y : OpenEntry) (o r : Option OpenEntry) → cond b (Some x) o ≡ None → (o ≡ None → r ≡ Some y)
    → cond b (Some x) r ≡ Some y
later true x y o r e h = cc
later false x y o r e h = h e

pub find-first : (q : OpenEntry → Bool) (xs : List OpenEntry) (i : ℕ) (d : OpenEntry) → i < length xs
    → find q (take i xs) ≡ None
    → q (get_or xs i d) ≡ true → find q xs ≡ Some (get_or xs i d)
find-first q [] i d l none passes = absurd (omega arith)
find-first q (x ∷ xs) zero d l none passes = ap (λ b. cond b (Some x) (find q xs)) passes
find-first q (x ∷ xs) (suc i) d l none passes =
    later (q x) x (get_or xs i d) (find q (take i xs)) (find q xs) none
    (λ rest. find-first q xs i d (omega arith) rest passes)
