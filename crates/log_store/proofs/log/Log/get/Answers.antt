use Rattle.std.proofs.Common.{sym, subst}
use Rattle.log_store.specs.WrittenLog.{HasRecordAt, WrittenLog}
use Rattle.log_store.proofs.log.Log.get.Goals as goal

pub returns-clause-only : goal.returns-clause-only
returns-clause-only g c = λ r there.
    c.get.ensures.only r
    (subst (λ (v : WrittenLog g.row.D.Denot). HasRecordAt v.log c.args.lsn r) (sym c.self.view_is) there)
