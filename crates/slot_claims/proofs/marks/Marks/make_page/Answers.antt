use Rattle.std.proofs.Common.{◌+◌, ◌*◌, ◌≤◌, length, arith}
use Rattle.slot_claims.specs.Marks.{holder_at}
use Rattle.slot_claims.proofs.SlotMarks.{holder_in-longer, slot_same}
use Rattle.slot_claims.proofs.marks.Marks.make_page.Goals as goal

pub returns-clause-same : goal.returns-clause-same
unfolding holder_at
returns-clause-same c =
    let marks = c.args.self.now.marks in
    let same = c.page.view_is in
    let long : length marks.items ≤ 62 * (c.page.inside.0 + 1) = omega (arith, c.requires, marks.ok.0) in
    slot_same c.resize.new.self.items marks.items
    (holder_in-longer c.resize.result marks.items c.resize.new.self.items c.of-nobody.result
    (62 * (c.page.inside.0 + 1)) marks.len c.of-nobody.ensures marks.ok.0 long c.resize.ensures.items)
