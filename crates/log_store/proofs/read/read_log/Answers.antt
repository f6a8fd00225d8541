use Rattle.std.proofs.Common.{◌∙◌}
use Rattle.std.proofs.lemmas.Result.{err_from_is_err_and}
use Rattle.log_records.specs.Log.{SpellsLog}
use Rattle.log_store.specs.Fault.{Refuses}
use Rattle.log_records.proofs.Public.{same_log}
use Rattle.log_store.proofs.Inputs.{at_some, only_outside}
use Rattle.log_store.proofs.read.read_log.Goals as goal

-- what is read of the spelling of a log is that log
pub returns-clause-only : goal.returns-clause-only
returns-clause-only g c = λ log input e spells linked.
    let found = c.in_ok-scan_log.ensures.found in
    found.1.0 ∙ same_log found.0 log input (at_some _ input (SpellsLog found.0) e found.1.1.1.1.1) spells

-- and a fault is none of its bytes
pub returns-in_err-scan_log-clause-only : goal.returns-in_err-scan_log-clause-only
returns-in_err-scan_log-clause-only g c =
    let p = err_from_is_err_and c.from_residual.result c.from_residual.ensures.1 in
    rw (p.1, p.2) (λ log input e spells linked.
    only_outside log input spells linked c.in_err-scan_log.field-0.0
    (at_some _ input (λ i. Refuses i c.in_err-scan_log.field-0.0) e c.in_err-scan_log.ensures.first))
