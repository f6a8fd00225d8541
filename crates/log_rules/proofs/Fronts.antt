-- The changes of one transaction, among those of several, brought before the others.
use Rattle.std.proofs.Common.{◌≡◌, ◌↔◌, ℕ, Bool, true, false, cond, not, eqb, List, [], ◌∷◌, ◌++◌, All, sym, refl, ap}
use Rattle.std.proofs.Common.{subst, ◌∙◌, arith, append-nil}
use Rattle.std.specs.List.{filter, flat_map}
use Rattle.std.proofs.lemmas.List.{get_or_append_left, length-append}
use Rattle.std.proofs.lemmas.List.Concat.{flat_map-append}
use Rattle.page_core.specs.declared.change.Change.{Change}
use Rattle.log_rules.proofs.Chains.{Apart, AddsWith, Leads, apart_back, swap_parts}

-- ---- one number out of a list in which it stands once

record Split (t : ℕ) (os : List ℕ) : Type 0 where
  before : List ℕ
  after : List ℕ
  whole : os ≡ before ++ t ∷ after
  rest : filter (λ o. not (eqb o t)) os ≡ before ++ after

without_none : (t : ℕ) (os : List ℕ) → filter (λ o. eqb o t) os ≡ [] → filter (λ o. not (eqb o t)) os ≡ os
without_none t [] none = refl
without_none t (o ∷ os) none = at (eqb o t) none (without_none t os)
  where
    at : (b : Bool) → cond b (o ∷ filter (λ n. eqb n t) os) (filter (λ n. eqb n t) os) ≡ []
        → (filter (λ n. eqb n t) os ≡ [] → filter (λ n. not (eqb n t)) os ≡ os)
        → cond (not b) (o ∷ filter (λ n. not (eqb n t)) os) (filter (λ n. not (eqb n t)) os) ≡ o ∷ os
    at true none' behind = cc
    at false none' behind = ap (λ ns. o ∷ ns) (behind none')

split_once : (t : ℕ) (os : List ℕ) → filter (λ o. eqb o t) os ≡ t ∷ [] → Split t os
split_once t [] once = cc
split_once t (o ∷ os) once = at (eqb o t) refl once (split_once t os)
  where
    at : (b : Bool) → eqb o t ≡ b → cond b (o ∷ filter (λ n. eqb n t) os) (filter (λ n. eqb n t) os) ≡ t ∷ []
        → (filter (λ n. eqb n t) os ≡ t ∷ [] → Split t os) → Split t (o ∷ os)
    at true is here behind =
        let same : o ≡ t = cc in
        let none : filter (λ n. eqb n t) os ≡ [] = cc in
        let others = filter (λ n. not (eqb n t)) os in
        record {
          before = [];
          after = os;
          whole = ap (λ n. n ∷ os) same;
          rest = ap (λ b. cond (not b) (o ∷ others) others) is ∙ without_none t os none;
        }
    at false is here behind =
        let split = behind here in
        let others = filter (λ n. not (eqb n t)) os in
        record {
          before = o ∷ split.before;
          after = split.after;
          whole = ap (λ ns. o ∷ ns) split.whole;
          rest = ap (λ b. cond (not b) (o ∷ others) others) is ∙ ap (λ ns. o ∷ ns) split.rest;
        }

-- ---- the changes of one transaction, before those of the others and behind them

pub all_front : {X : Type 0} (P : X → Type 0) (xs ys : List X) → All P (xs ++ ys) → All P xs
all_front P xs ys all k d below =
    subst P (get_or_append_left xs ys d k below) (all k d (omega (arith, length-append xs ys)))

pub in_front : (own : ℕ → List Change) (t : ℕ) (os : List ℕ) → filter (λ o. eqb o t) os ≡ t ∷ []
    → Apart (flat_map own (filter (λ o. not (eqb o t)) os)) (own t) → (from to : ℕ)
    → Leads (flat_map own os) from to ↔ Leads (own t ++ flat_map own (filter (λ o. not (eqb o t)) os)) from to
in_front own t os once apart from to =
    let split = split_once t os once in
    let xs = flat_map own split.before in
    let ys = flat_map own split.after in
    let whole : flat_map own os ≡ xs ++ (own t ++ ys) =
    ap (flat_map own) split.whole ∙ flat_map-append own split.before (t ∷ split.after) in
    let rest : flat_map own (filter (λ o. not (eqb o t)) os) ≡ xs ++ ys =
    ap (flat_map own) split.rest ∙ flat_map-append own split.before split.after in
    let free : Apart xs (own t) = all_front (AddsWith (own t)) xs ys (subst (All (AddsWith (own t))) rest apart) in (
      λ leads. subst
          (λ cs. Leads (own t ++ cs) from to)
          (sym rest) (swap_parts xs (own t) ys from to free (subst (λ cs. Leads cs from to) whole leads)),
      λ leads. subst
          (λ cs. Leads cs from to)
          (sym whole)
          (swap_parts
          (own t) xs ys from to (apart_back xs (own t) free) (subst (λ cs. Leads (own t ++ cs) from to) rest leads)),
    )

pub swap_ends : (cs ds : List Change) (from to : ℕ) → Apart cs ds → Leads (cs ++ ds) from to → Leads (ds ++ cs) from to
swap_ends cs ds from to apart leads =
    let Way : List Change → Type 0 = λ es. Leads es from to in
    let padded : Leads (cs ++ (ds ++ [])) from to = subst (λ es. Way (cs ++ es)) (sym (append-nil ds)) leads in
    subst (λ es. Way (ds ++ es)) (append-nil cs) (swap_parts cs ds [] from to apart padded)
