use Rattle.std.proofs.Common.{rules}
use Rattle.settlement.specs.Checkpoint.{IsEndOf}
use Rattle.settlement.proofs.Logged.{has_here, has_none, has_this}
use Rattle.settlement.proofs.checkpoints.has_end.Goals as goal

pub returns-in_default-clause-no : goal.returns-in_default-clause-no
returns-in_default-clause-no c = λ none has.
    has_none c.args.records.now (IsEndOf c.args.begin c.args.redo) c.args.at
    c.in_default.ensures.none has.there

pub returns-clause-yes : goal.returns-clause-yes
returns-clause-yes c = λ yes.
    let found = c.in-Some.ensures.some in
    record {
      there =
          has_here c.args.records.now (IsEndOf c.args.begin c.args.redo) c.args.at c.in-Some.index
          c.index-records-index.result found.0 found.1 c.index-records-index.is
          (c.is_end_of.ensures.yes yes);
      forced = search rules;
    }

pub returns-clause-no : goal.returns-clause-no
returns-clause-no c = λ no has.
    let found = c.in-Some.ensures.some in
    c.is_end_of.ensures.no no
    (has_this c.args.records.now (IsEndOf c.args.begin c.args.redo) c.args.at c.in-Some.index
    c.index-records-index.result found.0 found.1 c.index-records-index.is has.there)
