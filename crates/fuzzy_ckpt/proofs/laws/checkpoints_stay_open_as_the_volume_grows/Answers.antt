use Rattle.fuzzy_ckpt.proofs.Opens.{ckpt_grown, open_grown}
use Rattle.fuzzy_ckpt.proofs.laws.checkpoints_stay_open_as_the_volume_grows.Goals as goal

pub returns-clause-same : goal.returns-clause-same
returns-clause-same c = λ rs lsn count. open_grown rs lsn count

pub returns-clause-kept : goal.returns-clause-kept
returns-clause-kept c = λ log lsn count it valid linked own is. ckpt_grown log lsn count it valid linked own is
