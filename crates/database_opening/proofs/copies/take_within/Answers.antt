use Rattle.std.proofs.Common.{inl}
use Rattle.database_files.proofs.Public.{holds_if_ok}
use Rattle.database_opening.specs.Copies.{IsJudged, IsJudgedWithin}
use Rattle.database_opening.proofs.copies.take_within.Goals as goal

pub returns-then-is_within-clause-judged : goal.returns-then-is_within-clause-judged
returns-then-is_within-clause-judged c =
    holds_if_ok c.take_one.result (IsJudged c.args.id c.args.copy c.args.restarted.now c.take_one.new.restarted)
    (IsJudgedWithin c.args.end c.args.id c.args.copy c.args.restarted.now c.take_one.new.restarted)
    (λ judged. inl (c.is_within.ensures.0 c.if-is_within.true, judged)) c.take_one.ensures.judged
