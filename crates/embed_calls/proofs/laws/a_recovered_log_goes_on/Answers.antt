use Rattle.embed_calls.proofs.GoesOn.{closed, goes_on}
use Rattle.embed_calls.proofs.laws.a_recovered_log_goes_on.Goals as goal

pub returns-clause-log : goal.returns-clause-log
returns-clause-log c = goes_on

pub returns-clause-closed : goal.returns-clause-closed
returns-clause-closed c = closed
