-- What is pending at a record of the log, and how it goes on.
use Rattle.std.proofs.Common.{◌≡◌, ◌≢◌, ℕ, ◌-◌, ◌<◌, Bool, true, false, cond, ◌⊎◌}
use Rattle.std.proofs.Common.{eqb, List, [], ◌∷◌, ◌++◌}
use Rattle.std.proofs.Common.{append_assoc, get_or, length, refl, sym, ap, ap₂, subst, ◌∙◌, inl}
use Rattle.std.proofs.Common.{inr, arith}
use Rattle.std.proofs.Common.{eq-eqb, ne_eqb}
use Rattle.std.specs.Prelude.{Option, Some, None}
use Rattle.std.specs.List.{All}
use Rattle.std.specs.Option.{option_to_list}
use Rattle.std.proofs.lemmas.Bool.{cases_eq}
use Rattle.std.proofs.lemmas.List.{append-nil, get_or_append_left, get_or_push, length_push}
use Rattle.std.proofs.lemmas.List.{take_at}
use Rattle.std.proofs.lemmas.List.Elements.{All-filter, All-head, All-nil, All-push, All-tail}
use Rattle.std.proofs.lemmas.List.Elements.{All-take}
use Rattle.log_records.specs.declared.record.Record.{Record}
use Rattle.log_records.specs.Log.{lsn_of}
use Rattle.log_records.specs.Record.{own_lsn}
use Rattle.log_rules.specs.declared.pending_change.PendingChange.{PendingChange}
use Rattle.log_rules.specs.Savepoints.{stack_at, stack_from}
use Rattle.log_rules.specs.Transactions.{pending}
use Rattle.log_rules.specs.Transactions.{pending_from, records_of, txn_of, with_pending}
use Rattle.log_rules.specs.Transactions.{without_last}
use Rattle.log_rules.proofs.Public.{records_of_push_other, records_of_push_own}
use Rattle.txn_table.specs.declared.returns.Return.{Return}
use Rattle.txn_table.specs.Returns.{return_of, returns_from, returns_of}

-- ---- one record more

-- the first of two that is there
abbrev pub first_of : {X : Type 0} → Option X → Option X → Option X
first_of None b = b
first_of (Some a) b = Some a

pub returns_from_push : (before rs : List Record) (r : Record)
    → returns_from before (rs ++ r ∷ []) ≡ returns_from before rs ++ option_to_list (return_of (before ++ rs) r)
returns_from_push before [] r =
    append-nil (option_to_list (return_of before r))
    ∙ ap (λ xs. option_to_list (return_of xs r)) (sym (append-nil before))
returns_from_push before (x ∷ xs) r =
    let here = option_to_list (return_of before x) in
    ap (λ ys. here ++ ys)
    (returns_from_push (before ++ x ∷ []) xs r
    ∙ ap (λ ys. returns_from (before ++ x ∷ []) xs ++ option_to_list (return_of ys r)) (append_assoc before (x ∷ []) xs))
    ∙ sym (append_assoc here (returns_from (before ++ x ∷ []) xs) (option_to_list (return_of (before ++ x ∷ xs) r)))

pub returns_push : (rs : List Record) (r : Record)
    → returns_of (rs ++ r ∷ []) ≡ returns_of rs ++ option_to_list (return_of rs r)
returns_push rs r = returns_from_push [] rs r

abbrev pub at_last : List PendingChange → Record → ℕ → Option (List PendingChange)
at_last changes r at = cond (eqb (own_lsn r) at) (Some (with_pending changes r)) None

pub stack_from_push : (changes : List PendingChange) (xs : List Record) (r : Record) (at : ℕ)
    → stack_from changes (xs ++ r ∷ []) at
    ≡ first_of (stack_from changes xs at) (at_last (pending_from changes xs) r at)
stack_from_push changes [] r at = refl
stack_from_push changes (x ∷ xs) r at =
    let after = with_pending changes x in
    ap (λ o. cond (eqb (own_lsn x) at) (Some after) o) (stack_from_push after xs r at) ∙ by (eqb (own_lsn x) at)
  where
    rest : Option (List PendingChange)
    rest = stack_from (with_pending changes x) xs at

    more : Option (List PendingChange)
    more = at_last (pending_from (with_pending changes x) xs) r at

    by : (b : Bool) → cond b (Some (with_pending changes x))
        (first_of (stack_from (with_pending changes x) xs at)
        (at_last (pending_from (with_pending changes x) xs) r at))
        ≡ first_of (cond b (Some (with_pending changes x)) (stack_from (with_pending changes x) xs at))
        (at_last (pending_from (with_pending changes x) xs) r at)
    by true = refl
    by false = refl

pub stack_push_own : (rs : List Record) (r : Record) (t at : ℕ) → txn_of r ≡ t
    → stack_at (rs ++ r ∷ []) t at ≡ first_of (stack_at rs t at) (at_last (pending rs t) r at)
stack_push_own rs r t at same =
    ap (λ xs. stack_from [] xs at) (records_of_push_own rs r t same) ∙ stack_from_push [] (records_of rs t) r at

pub stack_push_other : (rs : List Record) (r : Record) (t at : ℕ) → txn_of r ≢ t
    → stack_at (rs ++ r ∷ []) t at ≡ stack_at rs t at
stack_push_other rs r t at other = ap (λ xs. stack_from [] xs at) (records_of_push_other rs r t other)

-- a stack stays
pub stack_stays : (rs : List Record) (r : Record) (t at : ℕ) (stack : List PendingChange) → txn_of r ≡ t
    → stack_at rs t at ≡ Some stack → stack_at (rs ++ r ∷ []) t at ≡ Some stack
stack_stays rs r t at stack same is =
    stack_push_own rs r t at same ∙ ap (λ o. first_of o (at_last (pending rs t) r at)) is

-- ---- where the records stand

abbrev pub ArePlaced : List Record → Type 0
ArePlaced rs = (i : ℕ) (d : Record) → i < length rs → own_lsn (get_or rs i d) ≡ lsn_of i

pub placed_front : (rs : List Record) (r : Record) → ArePlaced (rs ++ r ∷ []) → ArePlaced rs
placed_front rs r placed i d lt =
    sym (ap own_lsn (get_or_append_left rs (r ∷ []) d i lt)) ∙ placed i d (omega (arith, length_push rs r))

pub placed_last : (rs : List Record) (r : Record) → ArePlaced (rs ++ r ∷ []) → own_lsn r ≡ lsn_of (length rs)
placed_last rs r placed =
    sym (ap own_lsn (get_or_push rs r r (length rs) refl)) ∙ placed (length rs) r (omega (arith, length_push rs r))

-- each of them stands below the end
pub all_below : (rs : List Record) → ArePlaced rs → All (λ r. own_lsn r < lsn_of (length rs)) rs
all_below rs placed i d lt = let at = placed i d lt in omega arith

-- a stack is that of a record that is there
pub stack_within : (n at : ℕ) (changes : List PendingChange) (xs : List Record) (stack : List PendingChange)
    → All (λ r. own_lsn r < n) xs → stack_from changes xs at ≡ Some stack → at < n
stack_within n at changes [] stack all is = cc
stack_within n at changes (x ∷ xs) stack all is = elim (cases_eq (own_lsn x) at) [
  | inl same ↦ let below = All-head (λ r. own_lsn r < n) x xs all in omega arith
  | inr other ↦
      stack_within n at (with_pending changes x) xs stack (All-tail (λ r. own_lsn r < n) x xs all)
      (sym (ap (λ b. cond b (Some (with_pending changes x)) (stack_from (with_pending changes x) xs at))
      (ne_eqb (own_lsn x) at other)) ∙ is)
]

pub stack_below : (rs : List Record) (t at : ℕ) (stack : List PendingChange) → ArePlaced rs
    → stack_at rs t at ≡ Some stack → at < lsn_of (length rs)
stack_below rs t at stack placed is =
    stack_within (lsn_of (length rs)) at [] (records_of rs t) stack
    (All-filter (λ r. eqb (txn_of r) t) (λ r. own_lsn r < lsn_of (length rs)) rs (all_below rs placed)) is

-- so none stands at the end yet
pub stack_at_end : (rs : List Record) (t : ℕ) → ArePlaced rs → stack_at rs t (lsn_of (length rs)) ≡ None
stack_at_end rs t placed = by (stack_at rs t (lsn_of (length rs))) refl
  where
    by : (o : Option (List PendingChange)) → stack_at rs t (lsn_of (length rs)) ≡ o → o ≡ None
    by None is = refl
    by (Some stack) is = absurd (omega (arith, stack_below rs t (lsn_of (length rs)) stack placed is))

-- the stack of the new record
pub stack_of_last : (rs : List Record) (r : Record) (t : ℕ) → ArePlaced rs → own_lsn r ≡ lsn_of (length rs) → txn_of r ≡ t
    → stack_at (rs ++ r ∷ []) t (own_lsn r) ≡ Some (with_pending (pending rs t) r)
stack_of_last rs r t placed own same =
    stack_push_own rs r t (own_lsn r) same
    ∙ ap (λ o. first_of o (at_last (pending rs t) r (own_lsn r)))
    (ap (stack_at rs t) own ∙ stack_at_end rs t placed)
    ∙ ap (λ b. cond b (Some (with_pending (pending rs t) r)) None) (eq-eqb (own_lsn r) (own_lsn r) refl)

-- ---- a stack and what is pending now: they begin alike, and what is pending besides was made later
pub record Splits (now stack : List PendingChange) (at : ℕ) : Type 0 where
  pub common : List PendingChange
  pub new : List PendingChange
  pub gone : List PendingChange
  pub now_is : now ≡ common ++ new
  pub stack_is : stack ≡ common ++ gone
  pub above : All (λ p. at < p.lsn) new

pub splits_push : (now stack : List PendingChange) (at : ℕ) (p : PendingChange) → at < p.lsn → Splits now stack at
    → Splits (now ++ p ∷ []) stack at
splits_push now stack at p later s = record {
  common = s.common;
  new = s.new ++ p ∷ [];
  gone = s.gone;
  now_is = ap (λ xs. xs ++ p ∷ []) s.now_is ∙ append_assoc s.common s.new (p ∷ []);
  stack_is = s.stack_is;
  above = All-push (λ (q : PendingChange). at < q.lsn) s.new p s.above later;
}

-- a list that has a last element
pub record Ends {X : Type 0} (xs : List X) : Type 0 where
  pub front : List X
  pub last : X
  pub is : xs ≡ front ++ last ∷ []

pub ends_or_none : {X : Type 0} (xs : List X) → (xs ≡ []) ⊎ Ends xs
ends_or_none [] = inl refl
ends_or_none {X = X} (x ∷ xs) = inr (by x xs)
  where
    by : (x : X) (xs : List X) → Ends (x ∷ xs)
    by x [] = record { front = []; last = x; is = refl }
    by x (y ∷ ys) = let e = by y ys in record { front = x ∷ e.front; last = e.last; is = ap (λ zs. x ∷ zs) e.is }

pub take_front : {X : Type 0} (front : List X) (x : X) → without_last (front ++ x ∷ []) ≡ front
take_front [] x = refl
take_front front x = take_at front (x ∷ []) (length (front ++ x ∷ []) - 1) (omega (arith, length_push front x))

pub splits_pop : (now stack : List PendingChange) (at : ℕ) → Splits now stack at → Splits (without_last now) stack at
splits_pop now stack at s = by (ends_or_none s.new)
  where
    none_new : s.new ≡ [] → Splits (without_last now) stack at
    none_new none = of (ends_or_none s.common)
      where
        all : now ≡ s.common
        all = s.now_is ∙ ap (λ xs. s.common ++ xs) none ∙ append-nil s.common

        of : (s.common ≡ []) ⊎ Ends s.common → Splits (without_last now) stack at
        of (inl empty) = record {
          common = [];
          new = [];
          gone = s.gone;
          now_is = ap without_last (all ∙ empty);
          stack_is = s.stack_is ∙ ap (λ xs. xs ++ s.gone) empty;
          above = All-nil (λ (q : PendingChange). at < q.lsn);
        }
        of (inr e) = record {
          common = e.front;
          new = [];
          gone = e.last ∷ s.gone;
          now_is = ap without_last (all ∙ e.is) ∙ take_front e.front e.last ∙ sym (append-nil e.front);
          stack_is = s.stack_is ∙ ap (λ xs. xs ++ s.gone) e.is ∙ append_assoc e.front (e.last ∷ []) s.gone;
          above = All-nil (λ (q : PendingChange). at < q.lsn);
        }

    by : (s.new ≡ []) ⊎ Ends s.new → Splits (without_last now) stack at
    by (inl none) = none_new none
    by (inr e) = record {
      common = s.common;
      new = e.front;
      gone = s.gone;
      now_is = ap without_last (s.now_is ∙ ap (λ xs. s.common ++ xs) e.is
          ∙ sym (append_assoc s.common e.front (e.last ∷ [])))
          ∙ take_front (s.common ++ e.front) e.last;
      stack_is = s.stack_is;
      above = All-but_last e.front e.last (subst (All (λ (q : PendingChange). at < q.lsn)) e.is s.above);
    }
      where
        All-but_last : (front : List PendingChange) (last : PendingChange)
            → All (λ (q : PendingChange). at < q.lsn) (front ++ last ∷ []) → All (λ (q : PendingChange). at < q.lsn) front
        All-but_last front last all =
            subst (All (λ (q : PendingChange). at < q.lsn)) (take_front front last)
            (All-take (λ (q : PendingChange). at < q.lsn) (length (front ++ last ∷ []) - 1) (front ++ last ∷ []) all)

pub splits_same : (stack : List PendingChange) (at : ℕ) → Splits stack stack at
splits_same stack at = record {
  common = stack;
  new = [];
  gone = [];
  now_is = sym (append-nil stack);
  stack_is = sym (append-nil stack);
  above = All-nil (λ (q : PendingChange). at < q.lsn);
}
