use Rattle.std.proofs.Common.{[], ◌∙◌, ap, zero-le}
use Rattle.slot_claims.specs.Adders.{no_adders, rows_at, rows_in}
use Rattle.slot_claims.specs.RowSet.{no_rows}
use Rattle.slot_claims.proofs.AdderSets.{adders_at, none_in}
use Rattle.slot_claims.proofs.Paged.{at_behind}
use Rattle.slot_claims.proofs.adders.Adders.new.Goals as goal

pub returns : goal.returns
unfolding rows_at
returns c = λ page slot.
    ap (λ pages. adders_at pages page slot) c.new.ensures.items
    ∙ at_behind no_adders rows_in no_rows [] page slot none_in zero-le
