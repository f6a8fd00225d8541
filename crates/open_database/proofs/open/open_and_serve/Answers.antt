use Rattle.std.proofs.Common.{rules}
use Rattle.open_database.proofs.open.open_and_serve.Goals as goal

pub returns-in-Ok-clause-lived : goal.returns-in-Ok-clause-lived
returns-in-Ok-clause-lived g c = λ well.
    let all = c.serve_and_close.ensures.all (c.outcome.ensures.well well) in
    search (rules, all)
