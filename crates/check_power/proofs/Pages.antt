-- The pages of a database that was restarted.
use Rattle.std.proofs.Common.{subst, sym}
use Rattle.page_core.specs.Volume.{AreNumbered}
use Rattle.log_records.specs.Log.{page_count}
use Rattle.log_records.proofs.Public.{numbered-redo_all}
use Rattle.engine_restart.specs.Restart.{IsRestarted, RestartedView}

pub are_numbered : (it : RestartedView) → IsRestarted it → AreNumbered it.pages
are_numbered it is = subst AreNumbered (sym is.pages) (numbered-redo_all it.log.records (page_count it.log))
