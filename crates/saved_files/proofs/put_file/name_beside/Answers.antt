use Rattle.std.proofs.lemmas.Result.{IfOk-weaker}
use Rattle.saved_files.proofs.put_file.name_beside.Goals as goal

pub returns : goal.returns
returns c = IfOk-weaker c.text_beside.result _ _ (λ text is. (c.args.number, is)) c.text_beside.ensures
