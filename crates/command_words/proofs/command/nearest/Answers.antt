use Rattle.std.proofs.Common.{◌<◌, ◌∷◌, Bor, List, [], ℕ, refl}
use Rattle.command_words.proofs.NearestLemmas.{named_at, nearer, nearest, no_nearer}
use Rattle.command_words.proofs.command.nearest.Goals as goal
use Rattle.command_words.proofs.command.nearest.Goals.{then-edits-least, else-edits-least}

pub loop-name-preserved : goal.loop-name-preserved
loop-name-preserved c =
    let now = λ (name : Bor (List ℕ)). name.now in
    let lt : c.loop-name.name-index < 11 = c.loop-name-test.true in
    elim c.if-edits-least.branch [
      | then-edits-least w ↦ nearer now _ _ _ _ _ _ _ _ c.loop-name.invariant lt
          c.in_ok-edits.ensures.value (named_at now (_ ∷ _ ∷ _ ∷ _ ∷ _ ∷ _ ∷ _ ∷ _ ∷ _ ∷ _ ∷ _ ∷ []) _ _ refl lt)
          w.if-edits-least.true w.best-is w.least-is
      | else-edits-least w ↦ no_nearer now _ _ _ _ _ _ _ _ c.loop-name.invariant
          c.in_ok-edits.ensures.value (named_at now (_ ∷ _ ∷ _ ∷ _ ∷ _ ∷ _ ∷ _ ∷ _ ∷ _ ∷ _ ∷ _ ∷ []) _ _ refl lt)
          w.if-edits-least.false w.best-is w.least-is
    ]

pub returns : goal.returns
returns c = nearest (λ (name : Bor (List ℕ)). name.now) _ _ _ _ c.loop-name.invariant c.loop-name-test.false
