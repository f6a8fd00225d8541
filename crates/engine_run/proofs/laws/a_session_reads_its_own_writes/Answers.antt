use Rattle.engine_run.proofs.Told.{reads_told}
use Rattle.engine_run.proofs.laws.a_session_reads_its_own_writes.Goals as goal

pub returns : goal.returns
returns c = λ began left sessions works retired settled.
    reads_told began left sessions works retired settled
