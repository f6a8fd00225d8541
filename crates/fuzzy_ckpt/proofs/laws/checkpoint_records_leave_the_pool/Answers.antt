use Rattle.fuzzy_ckpt.proofs.Beside.{pool_kept}
use Rattle.fuzzy_ckpt.proofs.laws.checkpoint_records_leave_the_pool.Goals as goal

pub returns : goal.returns
returns g c = λ log r pool of valid is. pool_kept g.S.PageStore.stored log r pool of valid is
