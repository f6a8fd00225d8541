use Rattle.log_records.proofs.Coverage.{past_is_named}
use Rattle.log_records.proofs.coverage_laws.an_image_names_its_records.Goals as goal

pub returns : goal.returns
returns c = λ log number page valid past. past_is_named log number page valid past
