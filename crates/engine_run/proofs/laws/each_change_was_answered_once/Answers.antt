use Rattle.std.proofs.Common.{slice_index_or}
use Rattle.settlement.proofs.Public.{one_change_each, update_of_txn}
use Rattle.engine_run.proofs.Told.{answered_once}
use Rattle.engine_run.proofs.laws.each_change_was_answered_once.Goals as goal

pub returns : goal.returns
returns c = λ began e sessions works settled i d from within is.
    one_change_each e.log.records e.forced_end sessions i d settled.receipts is
    (answered_once began e sessions works settled i d from within
    (update_of_txn (slice_index_or e.log.records i d) is))
