use Rattle.std.proofs.Common.{sym, ap, ◌∙◌, ◌++◌, ◌∷◌, [], List, ℕ, arith}
use Rattle.page_claim.proofs.Joined.{pages_below_more}
use Rattle.page_claim.proofs.closing.first_pages.Goals as goal

pub loop-number-preserved : goal.loop-number-preserved
loop-number-preserved c =
    let n = c.loop-number.number in (
      c.push_reserved.ensures.items ∙ ap (λ (pages : List ℕ). pages ++ n ∷ []) c.loop-number.invariant.0 ∙ sym (pages_below_more n),
      omega arith,
      omega arith,
    )
