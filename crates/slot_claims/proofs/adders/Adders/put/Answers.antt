use Rattle.std.proofs.Common.{arith, refl}
use Rattle.slot_claims.specs.Adders.{no_adders, rows_at, rows_in}
use Rattle.slot_claims.specs.RowSet.{no_rows}
use Rattle.slot_claims.proofs.AdderSets.{set_at, set_in_found}
use Rattle.slot_claims.proofs.Paged.{at_put_on}
use Rattle.slot_claims.proofs.adders.Adders.put.Goals as goal

pub index_mut-requires : goal.index_mut-requires
index_mut-requires c =
    let there = set_at c.args.self.now c.args.page c.args.slot c.requires in
    let page_is = c.page.view_is in
    omega (arith, there.1)

pub put-requires-clause-slot : goal.put-requires-clause-slot
put-requires-clause-slot c =
    let there = set_at c.args.self.now c.args.page c.args.slot c.requires in
    let slot_is = c.slot.view_is in
    omega (arith, there.0)

pub put-requires-clause-room : goal.put-requires-clause-room
put-requires-clause-room c =
    set_in_found c.args.self.now c.args.page c.args.slot c.page.inside.0 c.slot.inside.0 c.index_mut.result.now
    c.requires c.page.view_is c.slot.view_is c.index_mut.ensures.value

pub returns : goal.returns
unfolding rows_at
returns c =
    let pages = c.args.self.now.pages in
    let there = set_at c.args.self.now c.args.page c.args.slot c.requires in
    at_put_on no_adders rows_in no_rows pages.items pages.items c.args.page c.args.slot
    c.page.inside.0 c.slot.inside.0 c.index_mut.result.now c.put.new.self c.args.rows c.page.view_is c.slot.view_is
    (omega (arith, pages.ok.0, there.1, c.page.view_is)) (omega (arith, there.0, c.slot.view_is)) c.index_mut.ensures.value
    c.put.ensures (λ p s. refl)
