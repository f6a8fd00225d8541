use Rattle.log_store.proofs.Faults.{none_in_log}
use Rattle.log_store.proofs.laws.spelled_logs_have_no_fault.Goals as goal

pub returns : goal.returns
returns c = none_in_log
