use Rattle.std.proofs.Common.{refl, rules, []}
use Rattle.std.specs.Prelude.{codes}
use Rattle.database_session.proofs.CommandRuns.{some_left, some_text}
use Rattle.database_session.proofs.session.OpenDatabase.tell_status.Goals as goal

pub returns-in-Ok-clause-ok : goal.returns-in-Ok-clause-ok
returns-in-Ok-clause-ok g c =
    some_text c.write_text.result c.as_bytes.result.now (g.W.Write.contents c.args.writer.now)
    (g.W.Write.contents c.write_text.new.writer) (search rules)
    c.write_text.ensures.ok

pub returns-in-Ok-clause-err : goal.returns-in-Ok-clause-err
returns-in-Ok-clause-err g c =
    some_left c.write_text.result c.as_bytes.result.now (g.W.Write.contents c.args.writer.now)
    (g.W.Write.contents c.write_text.new.writer) (search rules)
    c.write_text.ensures.err

pub returns-in-Err-clause-err : goal.returns-in-Err-clause-err
returns-in-Err-clause-err g c = (codes "status end\n", ([], refl), search rules)
