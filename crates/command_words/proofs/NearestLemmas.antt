-- Which name is nearest, found by one name after another.
use Rattle.std.proofs.Common.{◌≡◌, ◌≤◌, ◌<◌, ◌+◌, ℕ, Option, MatchOption, Some, None, ap, arith, below_more, get_or, length}
use Rattle.std.proofs.Common.{◌∷◌, [], List, map, refl, subst, suc, sym, zero}
use Rattle.std.specs.List.{Any}
use Rattle.clap.specs.Words.{Text}
use Rattle.command_words.specs.Command.{IsFar, IsNear, edits, names}

-- the name among the first ones that is nearest, if it is near, and how far it is; 3 if none is near
pub record BestOf (X : Type 0) (now : X → Text) (word : Text) (best : Option X) (least count : ℕ) : Type 0 where
  pub best_is : MatchOption best (least ≡ 3)
      (λ name. (edits word (now name) ≡ least) × (least ≤ 2) × Any (λ one. one ≡ now name) names)
  pub none_nearer : (k : ℕ) (other : Text) → k < count → least ≤ edits word (get_or names k other)

at_most_three : {X : Type 0} (now : X → Text) (word : Text) (best : Option X) (least : ℕ)
    → MatchOption best (least ≡ 3)
    (λ name. (edits word (now name) ≡ least) × (least ≤ 2) × Any (λ one. one ≡ now name) names) → least ≤ 3
at_most_three now word None least is = omega arith
at_most_three now word (Some name) least is = let few = is.1 in omega arith

nearer_one : (a b c : ℕ) → a < b → b ≤ c → a ≤ c
nearer_one a b c lt le = omega arith

least_is_so : (a b c : ℕ) → a ≡ b → b ≡ c → a ≤ c
least_is_so a b c same is = omega arith

no_farther : (least a b c : ℕ) → least ≤ a → a ≡ b → b ≡ c → least ≤ c
no_farther least a b c le same is = omega arith

more_than_two : (least far : ℕ) → least ≡ 3 → least ≤ far → 2 < far
more_than_two least far is le = omega arith

below : (k five count : ℕ) → k < five → five ≤ count → k < count
below k five count lt le = omega arith

at_place : {X : Type 0} (now : X → Text) (xs : List X) (x : X) (i : ℕ) → i < length xs → (other : Text)
    → get_or (map now xs) i other ≡ now (get_or xs i x)
at_place now [] x i lt other = absurd (omega arith)
at_place now (a ∷ xs) x zero lt other = refl
at_place now (a ∷ xs) x (suc i) lt other = at_place now xs x i (omega arith) other

-- the names behind references, by their places
pub named_at : {X : Type 0} (now : X → Text) (xs : List X) (x : X) (i : ℕ) → map now xs ≡ names → i < length xs
    → (other : Text) → get_or names i other ≡ now (get_or xs i x)
named_at now xs x i are lt other = subst (λ ns. get_or ns i other ≡ now (get_or xs i x)) are (at_place now xs x i lt other)

-- a name that is nearer than those before it
pub nearer : {X : Type 0} (now : X → Text) (word : Text) (best new : Option X) (least now_least count far : ℕ) (name : X)
    → BestOf X now word best least count → count < length names → far ≡ edits word (now name)
    → ((other : Text) → get_or names count other ≡ now name) → far < least → new ≡ Some name → now_least ≡ far
    → BestOf X now word new now_least (count + 1)
nearer now word best new least now_least count far name so_far lt far_is at less new_is least_is =
    subst (λ b. BestOf _ now word b now_least (count + 1)) (sym new_is)
    (subst (λ d. BestOf _ now word (Some name) d (count + 1)) (sym least_is) record {
      best_is = (
        sym far_is,
        (let three = at_most_three now word best least so_far.best_is in omega arith),
        (count, now name, lt, at (now name), refl),
      );
      none_nearer = λ k other h. below_more _ _
          (λ j before. nearer_one far least _ less (so_far.none_nearer j other before))
          (least_is_so far (edits word (now name)) _ far_is (ap (edits word) (sym (at other)))) k h;
    })

-- a name that is no nearer than one before it
pub no_nearer : {X : Type 0} (now : X → Text) (word : Text) (best new : Option X) (least now_least count far : ℕ) (name : Text)
    → BestOf X now word best least count → far ≡ edits word name
    → ((other : Text) → get_or names count other ≡ name) → least ≤ far → new ≡ best → now_least ≡ least
    → BestOf X now word new now_least (count + 1)
no_nearer now word best new least now_least count far name so_far far_is at more new_is least_is =
    subst (λ b. BestOf _ now word b now_least (count + 1)) (sym new_is)
    (subst (λ d. BestOf _ now word best d (count + 1)) (sym least_is) record {
      best_is = so_far.best_is;
      none_nearer = λ k other h. below_more _ _ (λ j before. so_far.none_nearer j other before)
          (no_farther least far (edits word name) _ more far_is (ap (edits word) (sym (at other)))) k h;
    })

-- after the last name
pub nearest : {X : Type 0} (now : X → Text) (word : Text) (best : Option X) (least count : ℕ)
    → BestOf X now word best least count → length names ≤ count
    → MatchOption best (IsFar word) (λ name. IsNear word (now name))
nearest now word None least count so_far all = λ k other lt.
    more_than_two least _ so_far.best_is (so_far.none_nearer k other (below k (length names) count lt all))
nearest now word (Some name) least count so_far all = (
  subst (λ d. d ≤ 2) (sym so_far.best_is.0) so_far.best_is.1,
  so_far.best_is.2,
  λ k other lt. subst (λ d. d ≤ edits word (get_or names k other)) (sym so_far.best_is.0)
      (so_far.none_nearer k other (below k (length names) count lt all)),
)
