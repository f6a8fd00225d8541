use Rattle.std.proofs.Common.{◌≡◌, ◌<◌, List, ap, get_or, length, subst, ◌∙◌}
use Rattle.check_power.specs.declared.step.Step.{Step}
use Rattle.check_power.proofs.Reached.{reach_next}
use Rattle.check_power.proofs.platter.Platter.torn.Goals as goal

pub loop-step-preserved : goal.loop-step-preserved
loop-step-preserved g c =
    let steps = c.args.self.now.steps.items in
    let i = c.loop-step.step-index in
    let step = c.step-item.result in
    let same = c.deref-step-items.ensures.value in
    let there : i < length steps = subst (λ (xs : List Step). i < length xs) same c.loop-step-test.true in
    let is : step ≡ get_or steps i step = c.step-item.is ∙ ap (λ (xs : List Step). get_or xs i step) same in
    reach_next steps i step c.args.self.now.synced.items c.loop-step.left.items c.tear.new.left.items there is
    c.loop-step.invariant c.in_ok-tear.ensures
