use Rattle.std.proofs.Common.{[]}
use Rattle.file_view.proofs.Inputs.{all_given, more_given}
use Rattle.file_view.proofs.input.read_through.Goals as goal

pub returns-in-End-clause-given : goal.returns-in-End-clause-given
returns-in-End-clause-given g c = all_given _ _ _ [] _ c.in-End.ensures.1 c.loop.invariant

pub returns-then-len-gt-MAX_LOG_BYTES-clause-given :
    goal.returns-then-len-gt-MAX_LOG_BYTES-clause-given
returns-then-len-gt-MAX_LOG_BYTES-clause-given g c =
    more_given _ _ _ [] _ _ _ c.in-More.count c.in-More.ensures.1 c.loop.invariant
    c.in_ok-extend_from_slice-in-More.ensures.items

pub loop-preserved : goal.loop-preserved
loop-preserved g c =
    more_given _ _ _ [] _ _ _ c.in-More.count c.in-More.ensures.1 c.loop.invariant
    c.in_ok-extend_from_slice-in-More.ensures.items
