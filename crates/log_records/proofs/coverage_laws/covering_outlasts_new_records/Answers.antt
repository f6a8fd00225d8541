use Rattle.log_records.proofs.Coverage.{covers_later}
use Rattle.log_records.proofs.coverage_laws.covering_outlasts_new_records.Goals as goal

pub returns : goal.returns
returns c = λ rs next number page bound high covers. covers_later rs next number page bound high covers
