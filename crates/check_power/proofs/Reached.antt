-- Steps one after another.
use Rattle.std.proofs.Common.{◌≡◌, ◌+◌, ◌<◌, ℕ, List, [], ◌∷◌, ◌++◌, ap, arith, get_or, length, refl, subst, suc, sym, take, ◌∙◌}
use Rattle.std.proofs.Math.Seq.{take-suc}
use Rattle.check_power.specs.declared.step.Step.{Step}
use Rattle.check_power.specs.Steps.{MayMake, MayReach}

-- a step more
reach_one_more : (steps : List Step) (step : Step) (synced old new : List ℕ) → MayReach steps synced old
    → MayMake step old new → MayReach (steps ++ step ∷ []) synced new
reach_one_more [] step synced old new same made =
    (new, subst (λ (at : List ℕ). MayMake step at new) same made, refl)
reach_one_more (first ∷ later) step synced old new (next, made, reached) last =
    (next, made, reach_one_more later step next old new reached last)

pub reach_next : (steps : List Step) (i : ℕ) (step : Step) (synced old new : List ℕ) → i < length steps
    → step ≡ get_or steps i step → MayReach (take i steps) synced old → MayMake step old new
    → MayReach (take (i + 1) steps) synced new
reach_next steps i step synced old new there is reached made =
    let further : i + 1 ≡ suc i = omega arith in
    let more : take (i + 1) steps ≡ take i steps ++ step ∷ [] =
    ap (λ k. take k steps) further ∙ take-suc steps i step there
    ∙ ap (λ (x : Step). take i steps ++ x ∷ []) (sym is) in
    subst (λ (done : List Step). MayReach done synced new) (sym more)
    (reach_one_more (take i steps) step synced old new reached made)
