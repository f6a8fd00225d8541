-- What the calls of the table ask for: each kind of step keeps the rule, whatever the table is.
use Rattle.std.proofs.Common.{◌≡◌, ℕ, ◌+◌, ◌%◌, ◌^◌, ◌≤◌, ◌<◌, Bool, true, false, cond, List, length-set, get_or, get_or-set_same, set, sym, refl, subst, ◌∙◌, arith, lt_of_not-le}
use mathlib.Core.Logic.{dite}
use mathlib.Core.Option.{none}
use native.Mathlib.Decide.{dec_le}
use Rattle.atomic_table.specs.Table.{State, Me, step, keeps, stepped, Allows, Splits, Joins}
use Rattle.page_claim.specs.declared.rule.ClaimTerms.{ClaimTerms}
use Rattle.page_claim.specs.declared.rule.ClaimView.{ClaimView}
use Rattle.page_claim.specs.Rule.{ended_weight, KeepsClaims, IsFair, IsClaim, with_page, told_none, one_less, one_worker, together, spent_view}
use Rattle.page_claim.proofs.Sums.{sum_by_least}
use Rattle.page_claim.proofs.Steps.{gave_page, gave_none, was_split, were_joined}

abbrev M : Type 0
M = Me (Unit {0}) ClaimView

abbrev S : Type 0
S = State (Unit {0}) ClaimView

-- the word never comes near its end
pub no_wrap : (terms : ClaimTerms) (word : ℕ) (views : List ClaimView) → KeepsClaims terms word views → word < 2 ^ 63
no_wrap terms word views r = let f = r.few in let w = r.workers in let b = r.bounded in let l = sum_by_least ended_weight (λ v. v.weight) (λ v. cond_least v.ended v.weight) views in omega arith
  where
    cond_least : (b : Bool) (n : ℕ) → cond b n 0 ≤ n
    cond_least true n = omega arith
    cond_least false n = omega arith

module _ (terms : ClaimTerms) where
  counted_on : (s : S) (r : IsFair terms s) (n id : ℕ) (me : M) (w : ClaimView) → (slice : n ≡ get_or s.words 0 0 + 1) → KeepsClaims terms (get_or s.words 0 0 + 1) (set s.views id w)
      → IsFair terms (stepped s 0 n id me.1 w keeps)
  counted_on s r n id me w e k = (length-set s.words 0 n ∙ r.0, subst (λ (m : ℕ). KeepsClaims terms m (set s.views id w)) (sym (get_or-set_same s.words 0 n 0 (let one = r.0 in omega arith) ∙ e)) k)

  pub claims : (slots id : ℕ) (me : M) → 0 < me.0.weight → me.0.ended ≡ false → Allows (IsFair terms) slots id me 0 (λ n. (n + 1) % 2 ^ 64) (IsClaim (step slots 0 1 0 none) me)
  claims slots id me works goes s r _ at _ = let word : ℕ = get_or s.words 0 0 in let far = no_wrap terms word s.views r.1 in let is : (word + 1) % 2 ^ 64 ≡ word + 1 = omega arith in
      dite (dec_le me.0.count word)
      (λ large. (
        told_none me.0,
        keeps,
        tt,
        counted_on s r _ id me _ is (gave_none terms word s.views r.1 id me.0 at works goes large),
        record { slots = refl; page = λ small. absurd (omega arith); none = λ _. refl },
      ))
      (λ not_large. let small : word < me.0.count = lt_of_not-le not_large in (
        with_page me.0 word,
        keeps,
        tt,
        counted_on s r _ id me _ is (gave_page terms word s.views r.1 id me.0 at works small),
        record { slots = refl; page = λ _. refl; none = λ large. absurd (omega arith) },
      ))

  pub splits : (id : ℕ) (v : ClaimView) → 2 ≤ v.weight → v.ended ≡ false → Splits (IsFair terms) id v (one_less v) (one_worker v)
  splits id v two goes s r at = (r.0, was_split terms _ s.views r.1 id v at two goes)

  pub joins : (id : ℕ) (v : ClaimView) (other : ℕ) (o : ClaimView) → 0 < v.weight → Joins (IsFair terms) id v other o (together v o) spent_view
  joins id v other o works s r at apart on = (r.0, were_joined terms _ s.views r.1 id v at other o apart on works)
