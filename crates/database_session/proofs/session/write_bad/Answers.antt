use Rattle.std.proofs.Common.{rules}
use Rattle.database_session.proofs.Served.{told_by}
use Rattle.session_lines.specs.Orders.{words_for}
use Rattle.database_session.proofs.session.write_bad.Goals as goal

pub returns-in_default-clause-left : goal.returns-in_default-clause-left
returns-in_default-clause-left g c =
    let it = told_by (words_for c.args.bad.now.why) in (it.0, it.1, search rules)
