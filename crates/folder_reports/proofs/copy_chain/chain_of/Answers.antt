use Rattle.std.proofs.Common.{◌∙◌, ◌∷◌, ◌++◌, [], List, ℕ, ap}
use Rattle.folder_reports.proofs.Sounds.{ends_with}
use Rattle.folder_reports.proofs.copy_chain.chain_of.Goals as goal

pub loop-init : goal.loop-init
loop-init c = ([], c.in_ok-push.ensures.items ∙ ap (λ (xs : List ℕ). xs ++ c.args.id ∷ []) c.new-chain.ensures.items)

pub loop-preserved : goal.loop-preserved
loop-preserved c = (
  c.loop.invariant.0 ++ c.in-Some.parent ∷ [],
  c.in_ok-push-in-Some.ensures.items ∙ ap (λ (xs : List ℕ). xs ++ c.in-Some.parent ∷ []) c.loop.invariant.1,
)

pub returns-in-Some-eq0 : goal.returns-in-Some-eq0
returns-in-Some-eq0 c = ends_with c.args.id _ _ c.loop.invariant.0 c.loop.invariant.1 c.reverse.ensures.items
