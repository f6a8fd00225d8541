use Rattle.fuzzy_ckpt.proofs.Beside.{table_kept}
use Rattle.fuzzy_ckpt.proofs.laws.checkpoint_records_leave_the_table.Goals as goal

pub returns : goal.returns
returns c = λ rs r table of may few is. table_kept rs r table of may few is
