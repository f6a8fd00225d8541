use Rattle.std.proofs.Common.{rules}
use Rattle.settlement.specs.Checkpoint.{IsBegin}
use Rattle.settlement.proofs.Logged.{has_here, has_none, has_this}
use Rattle.settlement.proofs.checkpoints.begin_index.Goals as goal

pub returns-in_default-clause-none : goal.returns-in_default-clause-none
returns-in_default-clause-none c = λ has.
    has_none c.args.records.now IsBegin c.args.at c.in_default.ensures.none has.there

pub returns-then-not-is_begin-clause-none : goal.returns-then-not-is_begin-clause-none
returns-then-not-is_begin-clause-none c = λ has.
    let found = c.in-Some.ensures.some in
    c.is_begin.ensures.no c.if-not-is_begin.true
    (has_this c.args.records.now IsBegin c.args.at c.in-Some.index c.index-records-index.result
    found.0 found.1 c.index-records-index.is has.there)

pub returns-clause-some : goal.returns-clause-some
returns-clause-some c =
    let found = c.in-Some.ensures.some in (
      found.0,
      found.1,
      record {
        there =
            has_here c.args.records.now IsBegin c.args.at c.in-Some.index
            c.index-records-index.result found.0 found.1 c.index-records-index.is
            (c.is_begin.ensures.yes c.if-not-is_begin.false);
        forced = search rules;
      },
    )
