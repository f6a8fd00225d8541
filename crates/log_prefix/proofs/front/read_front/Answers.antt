use Rattle.std.proofs.Common.{ap, ◌∙◌}
use Rattle.log_records.specs.Log.{Log}
use Rattle.log_prefix.specs.Front.{IsFrontOf}
use Rattle.log_store.proofs.Public.{at_some}
use Rattle.log_prefix.proofs.Cuts.{same_found}
use Rattle.log_prefix.proofs.front.read_front.Goals as goal

-- what is read of bytes that have a front is that front
pub returns-clause-only : goal.returns-clause-only
returns-clause-only g c = λ it input e found.
    let f = c.in_ok-scan.ensures.found in
    let cut = c.in_ok-scan.field-0.cut in
    ap (λ (l : Log). record { log = l; cut = cut }) f.held
    ∙ same_found input (record { log = f.log; cut = cut }) it
    (at_some _ input (λ bytes. IsFrontOf bytes (record { log = f.log; cut = cut })) e f.front) found
