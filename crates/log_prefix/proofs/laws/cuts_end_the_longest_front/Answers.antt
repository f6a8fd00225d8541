use Rattle.std.specs.Prelude.{Some}
use Rattle.log_prefix.proofs.Fronts.{longest_before}
use Rattle.log_prefix.proofs.laws.cuts_end_the_longest_front.Goals as goal

pub returns : goal.returns
returns c = λ bytes log cut. longest_before bytes log (Some cut)
