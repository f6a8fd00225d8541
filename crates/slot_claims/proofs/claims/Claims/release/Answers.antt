use Rattle.std.proofs.Common.{refl}
use Rattle.slot_claims.proofs.SlotMarks.{held-marked}
use Rattle.slot_claims.proofs.Taken.{not_free, releases}
use Rattle.slot_claims.proofs.claims.Claims.release.Goals as goal

pub put-requires-clause-room : goal.put-requires-clause-room
put-requires-clause-room c =
    let before = c.args.self.now in
    held-marked before.marks c.args.page c.args.slot
    (not_free before c.args.page c.args.slot c.args.row c.args.before c.requires.weaker)

pub returns-in_default : goal.returns-in_default
returns-in_default c =
    let before = c.args.self.now in
    releases before (record { marks = c.put.new.self; adders = before.adders }) c.args.page c.args.slot c.args.row
    c.args.before c.holder.result c.holder_by.result c.holder.ensures.holder c.in_default.not-Adders c.requires.weaker
    c.holder_by.ensures.hold c.put.ensures refl
