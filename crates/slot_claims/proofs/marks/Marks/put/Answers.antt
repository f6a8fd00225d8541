use Rattle.std.proofs.Common.{◌∙◌, ap, arith, set}
use Rattle.slot_claims.specs.Marks.{holder_at}
use Rattle.slot_claims.proofs.SlotMarks.{marked, slot_holder, holder-put}
use Rattle.slot_claims.proofs.marks.Marks.put.Goals as goal

pub index_mut-requires : goal.index_mut-requires
index_mut-requires c =
    let marks = c.args.self.now.marks in
    let there = marked c.args.self.now c.args.page c.args.slot c.requires.room in
    omega (arith, there.1, marks.ok.0)

pub returns : goal.returns
unfolding holder_at
returns c = λ p s.
    let marks = c.args.self.now.marks in
    let there = marked c.args.self.now c.args.page c.args.slot c.requires.room in
    ap (λ n. slot_holder (set marks.items n c.of.result) p s) c.place_of.ensures
    ∙ holder-put marks.items c.args.page c.args.slot c.of.result c.args.holder c.of.ensures there.0
    (omega (arith, there.1, marks.ok.0)) p s
