use Rattle.std.proofs.Common.{ap, arith, length}
use Rattle.settlement.proofs.Marking.{marked_more}
use Rattle.settlement.proofs.checkpoints.mark_checkpoint.Goals as goal

pub returns-clause-marked : goal.returns-clause-marked
returns-clause-marked c = λ yes lsns m.
    let found = c.in-Some.ensures.some in
    let all = ap length c.records-records.ensures in
    marked_more c.args.marks.now lsns c.in-Some.index c.args.begin m found.0
    (let same = c.requires.lengths in omega (arith, found.1)) c.if-marks-index.false
