use Rattle.log_records.specs.declared.record.Record.TheVariants.{EndChkpt}
use Rattle.fuzzy_ckpt.proofs.Opens.{open_push}
use Rattle.fuzzy_ckpt.proofs.laws.an_ended_checkpoint_is_not_open.Goals as goal

pub returns : goal.returns
returns c = λ rs lsn begin redo. open_push rs (EndChkpt lsn begin redo)
