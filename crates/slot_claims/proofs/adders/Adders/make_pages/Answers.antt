use Rattle.std.proofs.Common.{◌∙◌, ap}
use Rattle.slot_claims.specs.Adders.{no_adders, rows_at, rows_in}
use Rattle.slot_claims.specs.RowSet.{no_rows}
use Rattle.slot_claims.proofs.AdderSets.{adders_at, none_in}
use Rattle.slot_claims.proofs.Paged.{at_more}
use Rattle.slot_claims.proofs.adders.Adders.make_pages.Goals as goal

pub loop-self-preserved : goal.loop-self-preserved
unfolding rows_at
loop-self-preserved c = λ p s.
    ap (λ pages. adders_at pages p s) c.in_ok-push.ensures.items
    ∙ at_more no_adders rows_in no_rows c.loop-self.self.pages.items c.new.result p s none_in c.new.ensures
    ∙ c.loop-self.invariant p s

pub returns-in_err-push-clause-same : goal.returns-in_err-push-clause-same
unfolding rows_at
returns-in_err-push-clause-same c = λ p s.
    ap (λ pages. adders_at pages p s) c.in_err-push.ensures.items ∙ c.loop-self.invariant p s
