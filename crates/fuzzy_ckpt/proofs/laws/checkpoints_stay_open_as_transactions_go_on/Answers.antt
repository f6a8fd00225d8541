use Rattle.fuzzy_ckpt.proofs.Opens.{ckpt_kept, open_same}
use Rattle.fuzzy_ckpt.proofs.laws.checkpoints_stay_open_as_transactions_go_on.Goals as goal

pub returns-clause-same : goal.returns-clause-same
returns-clause-same c = λ rs r of. open_same rs r of

pub returns-clause-kept : goal.returns-clause-kept
returns-clause-kept c = λ log r it valid linked of may own is. ckpt_kept log r it valid linked of may own is
