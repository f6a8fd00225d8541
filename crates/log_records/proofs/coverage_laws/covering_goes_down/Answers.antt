use Rattle.log_records.proofs.Coverage.{covers_lower}
use Rattle.log_records.proofs.coverage_laws.covering_goes_down.Goals as goal

pub returns : goal.returns
returns c = λ rs number page high low le covers. covers_lower rs number page high low le covers
