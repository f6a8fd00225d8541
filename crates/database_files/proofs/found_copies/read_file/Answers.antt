use Rattle.std.proofs.lemmas.Result.{IfOk-weaker}
use Rattle.database_files.proofs.Founds.{is_refused}
use Rattle.database_files.proofs.found_copies.read_file.Goals as goal

pub returns : goal.returns
returns g c =
    IfOk-weaker c.refused.result _ _ (λ it is. is_refused (g.R.Read.remaining c.args.file) c.in-Err.fault it is
    c.in-Err.ensures.only) c.refused.ensures
