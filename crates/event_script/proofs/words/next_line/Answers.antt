use Rattle.std.proofs.Common.{◌+◌, length, arith, eq-eqb, eqb-true}
use Rattle.event_script.proofs.Lines.{one_line, a_line}
use Rattle.event_script.proofs.words.next_line.Goals as goal

pub returns-in-Some-clause-parts : goal.returns-in-Some-clause-parts
returns-in-Some-clause-parts c =
    let found = c.in-Some.ensures.0 in
    a_line c.args.bytes.now c.in-Some.end (c.in-Some.end + 1) (omega arith)
    (λ k lt feed. found.before k (omega arith) lt (eq-eqb _ _ feed)) found.high (eqb-true _ _ c.in-Some.ensures.1)

pub returns-in-None-clause-parts : goal.returns-in-None-clause-parts
returns-in-None-clause-parts c =
    one_line c.args.bytes.now (length c.args.bytes.now) (omega arith)
    (λ k lt feed. c.in-None.ensures k (omega arith) lt (eq-eqb _ _ feed))
