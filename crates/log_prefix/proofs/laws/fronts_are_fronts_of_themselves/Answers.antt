use Rattle.std.proofs.Common.{take}
use Rattle.log_prefix.specs.Front.{end_of}
use Rattle.log_prefix.proofs.Fronts.{found_whole}
use Rattle.log_prefix.proofs.laws.fronts_are_fronts_of_themselves.Goals as goal

pub returns-clause-spelled : goal.returns-clause-spelled
returns-clause-spelled c = λ log bytes. found_whole bytes log

pub returns-clause-again : goal.returns-clause-again
returns-clause-again c = λ log bytes f. found_whole (take (end_of log) bytes) log f.spells f.linked
