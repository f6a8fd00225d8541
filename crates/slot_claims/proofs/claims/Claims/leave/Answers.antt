use Rattle.std.proofs.Common.{refl}
use Rattle.std.proofs.lemmas.Bool.{not-false, not-true}
use Rattle.slot_claims.specs.Adders.{rows_at}
use Rattle.slot_claims.proofs.AdderSets.{held-set}
use Rattle.slot_claims.proofs.Taken.{keeps-hold, leaves, not_empty, stays}
use Rattle.slot_claims.proofs.claims.Claims.leave.Goals as goal

pub put_row-requires-clause-room : goal.put_row-requires-clause-room
put_row-requires-clause-room c =
    let before = c.args.self.now in
    held-set before.adders c.args.page c.args.slot
    (not_empty before c.args.page c.args.slot c.args.row c.args.before c.requires.held c.requires.weaker)

pub returns-then-not-before : goal.returns-then-not-before
returns-then-not-before c =
    let before = c.args.self.now in
    leaves before (record { marks = before.marks; adders = c.put_row.new.self }) c.args.page c.args.slot c.args.row
    c.args.before (rows_at c.put_row.new.self c.args.page c.args.slot) c.requires.held c.requires.weaker
    (not-true c.args.before.against_sets c.if-not-before.true)
    c.put_row.ensures.now c.put_row.ensures.put refl

pub returns-else-not-before : goal.returns-else-not-before
returns-else-not-before c =
    let before = c.args.self.now in
    keeps-hold before c.args.page c.args.slot c.args.row c.args.before
    (stays before c.args.page c.args.slot c.args.row c.args.before c.requires.held c.requires.weaker
    (not-false c.args.before.against_sets c.if-not-before.false))
