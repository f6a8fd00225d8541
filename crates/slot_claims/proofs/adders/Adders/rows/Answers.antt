use Rattle.std.proofs.Common.{◌∙◌, refl, sym, arith}
use Rattle.slot_claims.specs.Adders.{no_adders, rows_at, rows_in}
use Rattle.slot_claims.specs.RowSet.{no_rows}
use Rattle.slot_claims.proofs.AdderSets.{none_in}
use Rattle.slot_claims.proofs.Paged.{at_behind, at_found, at_no_slot}
use Rattle.slot_claims.proofs.adders.Adders.rows.Goals as goal
use Rattle.slot_claims.proofs.adders.Adders.rows.Goals.{then-slot-ge-SLOTS-via-then-slot-ge-SLOTS}
use Rattle.slot_claims.proofs.adders.Adders.rows.Goals.{then-slot-ge-SLOTS-via-else-slot-ge-SLOTS+then-page-len}

pub returns-then-slot-ge-SLOTS : goal.returns-then-slot-ge-SLOTS
unfolding rows_at
returns-then-slot-ge-SLOTS c =
    let pages = c.args.self.now.pages in
    let page_same = c.page.view_is in
    let slot_same = c.slot.view_is in
    c.new.ensures
    ∙ sym (elim c.then-slot-ge-SLOTS.branch [
      | then-slot-ge-SLOTS-via-then-slot-ge-SLOTS w ↦
          at_no_slot no_adders rows_in no_rows pages.items c.args.page c.args.slot (omega arith)
      | then-slot-ge-SLOTS-via-else-slot-ge-SLOTS+then-page-len w ↦
          at_behind no_adders rows_in no_rows pages.items c.args.page c.args.slot none_in
          (omega (arith, pages.ok.0))
    ])

pub returns : goal.returns
unfolding rows_at
returns c =
    let pages = c.args.self.now.pages in
    c.rows.ensures
    ∙ sym (at_found no_adders rows_in no_rows pages.items pages.items c.args.page c.args.slot c.page.inside.0
    c.slot.inside.0 c.index.result.now c.page.view_is c.slot.view_is (omega (arith, pages.ok.0)) (omega arith)
    c.index.ensures (λ p s. refl))
