use Rattle.log_records.proofs.Coverage.{resume_covering}
use Rattle.log_records.proofs.coverage_laws.redo_of_a_covering_page_is_its_image.Goals as goal

pub returns : goal.returns
returns c = λ log number page from valid covers. resume_covering log number page from valid covers
